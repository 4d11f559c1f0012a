use Rattle.std.proofs.Common.{◌≡◌, ℕ, suc, ◌+◌, cond, eqb, get_or, List, length, reverse, take, sym, refl, ap, ◌∙◌, arith}
use Rattle.std.proofs.lemmas.Bool.{eq-eqb, ne_eqb}
use Rattle.std.proofs.lemmas.List.{take_more, take_all, length-take-le}
use Rattle.tree.specs.State.{rank_in}
use Rattle.tree.specs.laws.Ranks.{rank_more}
use Rattle.reference.proofs.judgement.rank_of.Goals.{then-calls-index, else-calls-index}
use Rattle.reference.proofs.judgement.rank_of.Goals as goal

pub loop-index-init : goal.loop-index-init
unfolding rank_in
loop-index-init c = refl

pub loop-index-preserved : goal.loop-index-preserved
loop-index-preserved c =
    let l = c.args.calls.now in
    let i = c.loop-index.index in
    let p = c.args.place in
    let t = c.loop-index-test.true in
    let long = length-take-le i l (omega arith) in
    let more : rank_in (reverse (take (i + 1) l)) p ≡ cond (eqb (get_or l i 0) p) (suc (length (take i l))) (rank_in (reverse (take i l)) p) =
    ap (λ (k : List ℕ). rank_in (reverse k) p) (take_more l i 0 t) ∙ rank_more (take i l) (get_or l i 0) p in
    elim c.if-calls-index.branch [
      | then-calls-index w ↦
          w.rank-is ∙ next i (length (take i l)) (sym long)
          ∙ sym (more ∙ ap (λ b. cond b (suc (length (take i l))) (rank_in (reverse (take i l)) p)) (eq-eqb (get_or l i 0) p w.if-calls-index.true))
      | else-calls-index w ↦
          w.rank-is ∙ c.loop-index.invariant
          ∙ sym (more ∙ ap (λ b. cond b (suc (length (take i l))) (rank_in (reverse (take i l)) p)) (ne_eqb (get_or l i 0) p w.if-calls-index.false))
    ]
  where
    next : (k n : ℕ) → k ≡ n → k + 1 ≡ suc n
    next k n e = omega arith

pub returns : goal.returns
returns c = c.loop-index.invariant ∙ ap (λ (k : List ℕ). rank_in (reverse k) c.args.place) (take_all c.loop-index.index c.args.calls.now c.loop-index-test.false)
