use Rattle.std.proofs.Common.{◌≡◌, ℕ, ◌<◌, Bool, ◌&&◌, ◌||◌, List, length, sym, refl, ap, ◌∙◌, subst, arith}
use Rattle.block.specs.declared.block.Block.{Block}
use Rattle.signatures.specs.Triple.{Triples}
use Rattle.hash.specs.declared.id.Id.{Id}
use Rattle.rules.specs.declared.params.Params.{Params}
use Rattle.tree.specs.Branches.{on}
use Rattle.model.specs.Regtest.{regtest}
use Rattle.model.specs.Rules.{Rules}
use Rattle.model.specs.Settle.{active, settle}
use Rattle.reference.specs.declared.kept_block.KeptBlock.{KeptBlock}
use Rattle.reference.specs.declared.judgement.Judgement.{Judgement}
use Rattle.reference.specs.declared.state.Replayed.{Replayed}
use Rattle.reference.specs.inside.Replay.{AreJudgements, IsRight, any_below, blocks_of, chain_rules, is_flagged, is_first, is_near, is_valid, judgement_in, state_of_replayed}
use Rattle.reference.proofs.States.{count, genesis-usable}
use Rattle.reference.proofs.Changes.{settle_state, settle_right}
use Rattle.reference.proofs.settlement.settle.Goals as goal

-- there are as many judgements as blocks, also in the lists that are lent
as_many : (r : Rules Block Id) (old : Replayed) → IsRight r old → {judged lent : List Judgement} {held : List KeptBlock} → AreJudgements r (state_of_replayed old) judged → lent ≡ judged → held ≡ old.held.items → length lent ≡ length held
as_many r old right are lent-are held-are =
    let n = count r old right in
    let j = are.same in
    let a = ap (λ (k : List Judgement). length k) lent-are in
    let b = ap (λ (k : List KeptBlock). length k) held-are in
    omega arith

-- what is said of a list that was lent is true of the list
module _ (params : Params) (triples : Triples) (old new : Replayed) (right : IsRight (regtest params triples) old) (judged : List Judgement) (are : AreJudgements (regtest params triples) (state_of_replayed old) judged)
    (a : ℕ) (is : a ≡ active (regtest params triples) (state_of_replayed old)) (near : List Bool)
    {first second third : List Judgement} {held : List KeptBlock} {lent : List Bool} (first-are : first ≡ judged) (kept : a < length first) (held-are : held ≡ old.held.items)
    (second-are : second ≡ judged) (near-same : length near ≡ length held) (near-is : (x : ℕ) → x < length held → is_flagged near x ≡ any_below (λ q. is_near second a q && on (blocks_of held) q x) (length held))
    (third-are : third ≡ judged) (lent-is : lent ≡ near) (bad-same : length new.bad.items ≡ length lent) (seen-same : length new.seen.items ≡ length lent)
    (bad-is : (x : ℕ) → x < length lent → is_flagged new.bad.items x ≡ (is_flagged old.bad.items x || (is_first (judgement_in third x).trial && is_flagged lent x)))
    (seen-is : (x : ℕ) → x < length lent → is_flagged new.seen.items x ≡ (is_flagged old.seen.items x || (is_valid (judgement_in third x).trial && is_flagged lent x))) where
  -- of the places that are near
  near_there : (x : ℕ) → x < length old.held.items → is_flagged near x ≡ any_below (λ q. is_near judged a q && on (blocks_of old.held.items) q x) (length old.held.items)
  near_there x h =
      let l = ap (λ (k : List KeptBlock). length k) held-are in
      near-is x (omega arith)
      ∙ ap (λ (k : List KeptBlock). any_below (λ q. is_near second a q && on (blocks_of k) q x) (length k)) held-are
      ∙ ap (λ (k : List Judgement). any_below (λ q. is_near k a q && on (blocks_of old.held.items) q x) (length old.held.items)) second-are

  below : a < length old.held.items
  below = let l = as_many (regtest params triples) old right are first-are refl in omega arith

  as_long : length lent ≡ length old.held.items
  as_long = ap (λ (k : List Bool). length k) lent-is ∙ near-same ∙ ap (λ (k : List KeptBlock). length k) held-are

  -- of the marks
  bad_there : (x : ℕ) → x < length old.held.items → is_flagged new.bad.items x ≡ (is_flagged old.bad.items x || (is_first (judgement_in judged x).trial && is_flagged near x))
  bad_there x h =
      let l = as_long in
      bad-is x (omega arith)
      ∙ ap (λ (k : List Judgement). is_flagged old.bad.items x || (is_first (judgement_in k x).trial && is_flagged lent x)) third-are
      ∙ ap (λ (k : List Bool). is_flagged old.bad.items x || (is_first (judgement_in judged x).trial && is_flagged k x)) lent-is

  -- and of the blocks that were seen
  seen_there : (x : ℕ) → x < length old.held.items → is_flagged new.seen.items x ≡ (is_flagged old.seen.items x || (is_valid (judgement_in judged x).trial && is_flagged near x))
  seen_there x h =
      let l = as_long in
      seen-is x (omega arith)
      ∙ ap (λ (k : List Judgement). is_flagged old.seen.items x || (is_valid (judgement_in k x).trial && is_flagged lent x)) third-are
      ∙ ap (λ (k : List Bool). is_flagged old.seen.items x || (is_valid (judgement_in judged x).trial && is_flagged k x)) lent-is

  -- so the state is settled, and right
  settled : new.held ≡ old.held → new.calls ≡ old.calls → (state_of_replayed new ≡ settle (regtest params triples) (state_of_replayed old)) × IsRight (regtest params triples) new
  settled same-held same-calls = (
    settle_state params triples old new right judged are a is below near near_there same-held same-calls (bad-same ∙ as_long) (seen-same ∙ as_long) bad_there seen_there,
    settle_right params triples old new right judged are a is below near near_there same-held same-calls (bad-same ∙ as_long) (seen-same ∙ as_long) bad_there seen_there,
  )

pub near-requires-clause-same : goal.near-requires-clause-same
near-requires-clause-same c = as_many (chain_rules c.args.chain.now) c.args.old.now c.requires c.in_ok-judged.ensures c.deref-3.ensures.value c.deref-2.ensures.value

pub near-requires-clause-active : goal.near-requires-clause-active
near-requires-clause-active c =
    let l = as_many (chain_rules c.args.chain.now) c.args.old.now c.requires c.in_ok-judged.ensures c.deref.ensures.value c.deref-2.ensures.value in
    let k = c.best_of-active.ensures.kept in
    omega arith

pub raise-requires-clause-judged : goal.raise-requires-clause-judged
raise-requires-clause-judged c =
    as_many (chain_rules c.args.chain.now) c.args.old.now c.requires c.in_ok-judged.ensures c.deref-4.ensures.value c.deref-2.ensures.value
    ∙ sym (ap (λ (k : List Bool). length k) c.deref-5.ensures.value ∙ c.in_ok-near.ensures.same)

pub returns-clause-active : goal.returns-clause-active
returns-clause-active c =
    let s = state_of_replayed c.args.old.now in
    let r = chain_rules c.args.chain.now in
    c.best_of-active.ensures.active c.args.chain.now.params.now c.args.chain.now.table.now s
    (subst (λ (k : List Judgement). AreJudgements r s k) (sym c.deref.ensures.value) c.in_ok-judged.ensures) (genesis-usable r c.args.old.now c.requires)

pub returns-clause-state : goal.returns-clause-state
returns-clause-state c =
    let new = record c.args.old.now { bad = c.raise.new.bad; seen = c.raise.new.seen } in
    (settled c.args.chain.now.params.now c.args.chain.now.table.now c.args.old.now new c.requires c.in_ok-judged.judged.items c.in_ok-judged.ensures c.best_of-active.result (returns-clause-active c) c.in_ok-near.near.items
    c.deref.ensures.value c.best_of-active.ensures.kept c.deref-2.ensures.value c.deref-3.ensures.value c.in_ok-near.ensures.same c.in_ok-near.ensures.near
    c.deref-4.ensures.value c.deref-5.ensures.value c.raise.ensures.same_bad c.raise.ensures.same_seen c.raise.ensures.bad c.raise.ensures.seen refl refl).0

pub returns-clause-right : goal.returns-clause-right
returns-clause-right c =
    let old = c.args.old.now in
    let raised = c.raise.new in
    (settled c.args.chain.now.params.now c.args.chain.now.table.now old (record old { bad = raised.bad; seen = raised.seen }) c.requires c.in_ok-judged.judged.items c.in_ok-judged.ensures c.best_of-active.result (returns-clause-active c)
    c.in_ok-near.near.items c.deref.ensures.value c.best_of-active.ensures.kept c.deref-2.ensures.value c.deref-3.ensures.value c.in_ok-near.ensures.same c.in_ok-near.ensures.near c.deref-4.ensures.value
    c.deref-5.ensures.value c.raise.ensures.same_bad c.raise.ensures.same_seen c.raise.ensures.bad c.raise.ensures.seen refl refl).1
