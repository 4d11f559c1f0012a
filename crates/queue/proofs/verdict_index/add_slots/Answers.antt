use Rattle.std.proofs.Common.{rules, ◌≡◌, ◌≤◌, Some, length, sym, ap, ◌∙◌, subst, arith}
use Rattle.std.specs.Prelude.{IsSome, slice_get, is_some}
use Rattle.std.specs.BTreeMap.{is_at}
use Rattle.queue.specs.declared.verdict_index.Key.{Key}
use Rattle.queue.specs.declared.verdict_index.Slot.{Slot}
use Rattle.interp.specs.Question.{Question}
use Rattle.queue.specs.Jobs.{Batch, questions}
use Rattle.queue.specs.inside.KnownAnswers.{key_cmp, key_of, slot_for}
use Rattle.queue.proofs.Pairs.{own_all, own_next, own_past, stays_some}
use Rattle.queue.proofs.verdict_index.add_slots.Goals as goal

pub loop-place-preserved : goal.loop-place-preserved
loop-place-preserved c =
    let batch = c.args.own.now.batch in
    let place = c.loop-place.place in
    let key = c.key-key.result in
    let old = c.loop-place.slots.entries in
    let new = c.insert.new.self.entries in
    let value : Slot = record { verdicts = c.args.list; place = place } in
    let lent : ◌≡◌ {A = Batch} c.jobs-in-loop-place.result.now batch = c.jobs-in-loop-place.ensures in
    let its : (q : Question) → slice_get (questions batch) place ≡ Some q → ◌≡◌ {A = Key} key (key_of q) =
    subst (λ (b : Batch). (q : Question) → slice_get (questions b) place ≡ Some q → ◌≡◌ {A = Key} key (key_of q)) lent c.key-key.ensures in
    let own : IsSome (slot_for new key) = ap is_some c.in_ok-insert.ensures.updates.1 in
    let others : (k : Key) → IsSome (slot_for old k) → IsSome (slot_for new k) =
    (λ k h. subst (λ o. IsSome o) (sym (c.in_ok-insert.ensures.updates.0 k)) (stays_some (is_at (key_cmp key) k) value (slot_for old k) h)) in
    record {
      own = own_next c.args.own.now new place key its own (λ at q answer low asked says. others (key_of q) (c.loop-place.invariant.own at q answer low asked says));
      others = λ k h. others k (c.loop-place.invariant.others k h);
    }

pub returns-clause-own : goal.returns-clause-own
returns-clause-own c =
    let batch = c.args.own.now.batch in
    let lent : ◌≡◌ {A = Batch} c.jobs.result.now batch = c.jobs.ensures in
    let size = c.len-place-end.ensures ∙ ap (λ (b : Batch). length b.spendings) lent in
    let all : length batch.spendings ≤ c.loop-place.place = omega (arith, size, c.loop-place-test.false) in
    own_all c.args.own.now c.loop-place.slots.entries c.loop-place.place all c.loop-place.invariant.own

pub loop-place-preserved-then-is_none : goal.loop-place-preserved-then-is_none
loop-place-preserved-then-is_none c = record {
  own = own_past c.args.own.now c.loop-place.slots.entries c.loop-place.place (search rules) c.loop-place.invariant.own;
  others = c.loop-place.invariant.others;
}
