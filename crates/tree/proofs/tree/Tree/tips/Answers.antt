use Rattle.std.proofs.Common.{◌≡◌, ℕ, List, [], ◌∷◌, map, refl, ap, ◌∙◌}
use Rattle.std.proofs.lemmas.List.{take_all}
use Rattle.block.specs.declared.block.Block.{Block}
use Rattle.tree.specs.declared.tip_order.Top.{Top}
use Rattle.tree.specs.declared.tip.Tip.{Tip}
use Rattle.tree.specs.Names.{names}
use Rattle.tree.specs.inside.Tops.{top_at}
use Rattle.tree.specs.State.{State}
use Rattle.tree.specs.Tips.{tip_of_id, tip, tips}
use Rattle.tree.specs.laws.Tops.{tip_kept}
use Rattle.tree.proofs.tree.Tree.tips.Goals as goal

pub tip_at-requires-clause-kept : goal.tip_at-requires-clause-kept
tip_at-requires-clause-kept c =
    tip_kept c.args.self.now.blocks c.args.best c.deref-top-items.result.now c.loop-top.top-index (record { depth = 0; place = 0 }) (c.deref-top-items.ensures.value ∙ c.in_ok-tops.ensures) c.loop-top-test.true

-- what is told of a top is told of its place
told : (s : State Block) (a : ℕ) (l : List ℕ) → map (λ (x : Top). tip_of_id (tip names s a x.place)) (map (top_at s.blocks) l) ≡ map tip_of_id (map (tip names s a) l)
told s a [] = refl
told s a (p ∷ l) = ap (λ (r : List Tip). tip_of_id (tip names s a p) ∷ r) (told s a l)

pub returns : goal.returns
unfolding tips
returns c =
    let s = c.args.self.now in
    let a = c.args.best in
    c.loop-top.invariant
    ∙ ap (map (λ (x : Top). tip_of_id (tip names s a x.place))) (take_all c.loop-top.top-index c.deref-top-items.result.now c.loop-top-test.false ∙ c.deref-top-items.ensures.value ∙ c.in_ok-tops.ensures)
    ∙ told s a _
