use Rattle.std.proofs.Common.{◌≡◌, ℕ, ◌-◌, true, false, ◌&&◌, length, sym, ap, ◌∙◌, subst, inl, arith}
use Rattle.signatures.specs.Triple.{Triples}
use Rattle.rules.specs.declared.params.Params.{Params}
use Rattle.block.specs.declared.block.Block.{Block}
use Rattle.tree.specs.State.{State, beats}
use Rattle.tree.specs.Sound.{IsBest}
use Rattle.tree.specs.laws.Best.{best_next}
use Rattle.model.specs.Settle.{can_be_active}
use Rattle.model.specs.Regtest.{regtest}
use Rattle.reference.specs.inside.Replay.{AreJudgements, judgement_in, no_judgement, above}
use Rattle.model.specs.laws.Actives.{active_only, can_from, valid-genesis}
use Rattle.reference.proofs.States.{can-is, above-is}
use Rattle.reference.proofs.judgement.best_of.Goals.{then-beats, else-beats}
use Rattle.reference.proofs.judgement.best_of.Goals as goal

pub loop-place-init : goal.loop-place-init
loop-place-init c = record {
  kept = c.requires;
  before = omega arith;
  best = λ params triples s are u. record {
    kept = omega arith;
    can = can_from (regtest params triples) s 0 u (valid-genesis (regtest params triples) s.blocks);
    tops = λ b l e. inl (omega arith);
  };
}

pub loop-place-preserved : goal.loop-place-preserved
loop-place-preserved c =
    let p = c.loop-place.place in
    let b = c.loop-place.best in
    let l = c.args.judged.now in
    let z = c.loop-place.auto.place in
    let t = c.loop-place-test.true in
    let k = c.loop-place.invariant.kept in
    let low = c.loop-place.invariant.before in
    let test : (params : Params) (triples : Triples) (s : State Block) → AreJudgements (regtest params triples) s l → (can_be_active (regtest params triples) s p && beats s p b) ≡ c.beats.result =
    λ params triples s are.
    let n = are.same in
    sym (c.beats.ensures
    ∙ ap (λ v. v && above (judgement_in l p) p (judgement_in l b) b) (can-is params triples s l are p no_judgement (omega arith))
    ∙ ap (λ v. can_be_active (regtest params triples) s p && v) (above-is params triples s l are p b no_judgement no_judgement (omega arith) (omega arith))) in
    elim c.if-beats.branch [
      | then-beats w ↦ record {
        kept = (let e = w.best-is in omega arith);
        before = (let e = w.best-is in omega arith);
        best = λ params triples s are u. best_next s (can_be_active (regtest params triples) s) p b c.if-beats.best true (omega arith) (c.loop-place.invariant.best params triples s are u) (test params triples s are ∙ w.if-beats.true) w.best-is;
      }
      | else-beats w ↦ record {
        kept = (let e = w.best-is in omega arith);
        before = (let e = w.best-is in omega arith);
        best = λ params triples s are u. best_next s (can_be_active (regtest params triples) s) p b c.if-beats.best false (omega arith) (c.loop-place.invariant.best params triples s are u) (test params triples s are ∙ w.if-beats.false) w.best-is;
      }
    ]

pub returns-clause-active : goal.returns-clause-active
returns-clause-active c = λ params triples s are u.
    let n = are.same in
    let a = c.loop-place.auto.place-end (omega arith) in
    let f = c.loop-place-test.false in
    let last : c.loop-place.place - 1 ≡ length s.blocks = omega arith in
    sym (active_only (regtest params triples) s c.loop-place.best (subst (λ (k : ℕ). IsBest s (can_be_active (regtest params triples) s) k c.loop-place.best) last (c.loop-place.invariant.best params triples s are u)))
