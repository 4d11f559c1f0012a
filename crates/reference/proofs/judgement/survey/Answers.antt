use Rattle.std.proofs.Common.{ℕ, ◌+◌, get_or, List, [], ◌∷◌, length, sym, ap, ◌∙◌, inl, inr, arith}
use Rattle.std.proofs.lemmas.Bool.{cases_eq}
use Rattle.std.proofs.lemmas.List.{length_push, get_or_push, get_or_append_left}
use Rattle.reference.specs.declared.judgement.Judgement.{Judgement}
use Rattle.reference.specs.inside.Replay.{chain_rules, judgement_at, state_of_replayed}
use Rattle.reference.proofs.States.{count}
use Rattle.reference.proofs.judgement.survey.Goals as goal

pub loop-place-preserved : goal.loop-place-preserved
loop-place-preserved c =
    let p = c.loop-place.place in
    let l = c.loop-place.judged.items in
    let i = c.loop-place.invariant in
    let j = c.judge.result in
    let e = c.in_ok-push.ensures.items in
    record {
      same = ap (λ (k : List Judgement). length k) e ∙ length_push l j ∙ ap (λ (n : ℕ). n + 1) i.same;
      each = λ q d h. ap (λ (k : List Judgement). get_or k q d) e ∙ elim (cases_eq q p) [
        | inl w ↦ get_or_push l j d q (i.same ∙ sym w) ∙ c.judge.ensures ∙ ap (judgement_at (chain_rules c.args.chain.now) (state_of_replayed c.args.old.now)) (sym w)
        | inr w ↦ (let s = i.same in get_or_append_left l (j ∷ []) d q (omega arith)) ∙ i.each q d (omega arith)
      ];
    }

pub returns : goal.returns
returns c =
    let r = chain_rules c.args.chain.now in
    let n = count r c.args.old.now c.requires in
    let i = c.loop-place.invariant in
    let a = c.loop-place.auto.place-end in
    let f = c.loop-place-test.false in
    let e = c.len-place-end.ensures in
    let s = i.same in
    let w = c.args.old.now.held.ok in
    record { same = omega arith; each = λ p d h. i.each p d (omega arith) }

pub judge-requires-clause-long : goal.judge-requires-clause-long
judge-requires-clause-long c = ap (λ (k : List Judgement). length k) c.deref.ensures.value ∙ c.loop-place.invariant.same

pub judge-requires-clause-below : goal.judge-requires-clause-below
judge-requires-clause-below c = λ p d h. ap (λ (k : List Judgement). get_or k p d) c.deref.ensures.value ∙ c.loop-place.invariant.each p d h
