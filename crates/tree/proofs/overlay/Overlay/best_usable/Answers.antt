use Rattle.std.proofs.Common.{◌≡◌, true, false, ◌&&◌, sym, ap, ◌∙◌, arith}
use Rattle.std.proofs.lemmas.Bool.{and_from}
use Rattle.std.proofs.lemmas.List.{get_or_default}
use Rattle.block.specs.declared.block.Block.{Block}
use Rattle.tree.specs.declared.block_index.Mark.{Mark}
use Rattle.tree.specs.Nodes.{blank, laid}
use Rattle.tree.specs.State.{State, has_no_mark, beats}
use Rattle.tree.specs.laws.Best.{best_first, best_next}
use Rattle.tree.proofs.Laid.{better_laid, genesis_usable}
use Rattle.tree.proofs.overlay.Overlay.best_usable.Goals.{then-index+then-better, else-index, else-index-via-then-index+else-better, else-index-via-else-index}
use Rattle.tree.proofs.overlay.Overlay.best_usable.Goals as goal

pub loop-place-init : goal.loop-place-init
loop-place-init c =
    let s : State Block = laid c.self.inside.tree.now c.self.inside.marks.items in
    (omega arith, best_first s (has_no_mark s) (genesis_usable c.self.invariant))

pub loop-place-preserved : goal.loop-place-preserved
loop-place-preserved c =
    let tree = c.self.inside.tree.now in
    let ms = c.self.inside.marks.items in
    let s : State Block = laid tree ms in
    let p = c.loop-place.place in
    let b = c.loop-place.best in
    let z = c.loop-place.invariant.0 in
    let best = c.loop-place.invariant.1 in
    let t = c.loop-place-test.true in
    let e = c.len-place-end.ensures.count in
    let n = c.self.invariant.count in
    let usable_is : c.index.result.now.usable ≡ has_no_mark s p =
    ap (λ (m : Mark). m.usable) (c.index.ensures ∙ get_or_default ms p c.index.result.now blank (omega arith)) ∙ (c.self.invariant.right p (omega arith)).usable in (
      omega arith,
      elim c.if-index.branch [
        | then-index+then-better w ↦
            best_next s (has_no_mark s) p b c.if-index.best true z best
            (and_from (has_no_mark s p) (beats s p b) (sym usable_is ∙ w.if-index.true) (better_laid tree ms p b ∙ sym w.better.ensures ∙ w.if-better.true))
            w.best-is
        | else-index w ↦
            best_next s (has_no_mark s) p b c.if-index.best false z best
            (elim w.else-index.branch [
              | else-index-via-then-index+else-better v ↦
                  ap (λ x. x && beats s p b) (sym usable_is ∙ v.if-index.true) ∙ better_laid tree ms p b ∙ sym v.better.ensures ∙ v.if-better.false
              | else-index-via-else-index v ↦ ap (λ x. x && beats s p b) (sym usable_is ∙ v.if-index.false)
            ])
            w.best-is
      ],
    )
