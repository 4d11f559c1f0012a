use Rattle.std.proofs.Common.{◌≡◌, ℕ, ◌<◌, length, Some, ◌∙◌, subst, arith}
use Rattle.std.specs.Prelude.{slice_get}
use Rattle.std.proofs.lemmas.Option.{get_or_from_slice_get, slice_get_within}
use borrow.Author.Count.{below_more}
use Rattle.node.specs.Pass.{Pass, IsStanding}
use Rattle.node.proofs.node.all_stand.Goals as goal

pub loop-k-preserved : goal.loop-k-preserved
loop-k-preserved g c j p lt e =
    let seats = c.args.seats.now in
    let k = c.loop-k.k in
    let here : (p : Pass) → slice_get seats k ≡ Some p → IsStanding c.args.history.now.journal p =
    λ p e. subst (λ (q : Pass). IsStanding c.args.history.now.journal q) (c.index-seats-k.is ∙ get_or_from_slice_get seats k p c.index-seats-k.result e) (c.stands_in.ensures c.if-not-stands_in.false) in
    below_more (λ (j : ℕ). (p : Pass) → slice_get seats j ≡ Some p → IsStanding c.args.history.now.journal p) k (λ j lt p e. c.loop-k.invariant j p lt e) here j lt p e

pub returns : goal.returns
returns g c _ k p e = c.loop-k.invariant k p (omega (arith, slice_get_within c.args.seats.now k p e)) e
