use Rattle.std.proofs.Common.{Bool, false, not, ◌&&◌, ◌||◌, List, [], length, get_or, refl, sym, ap, ◌∙◌, subst, arith}
use Rattle.block.specs.declared.block.Block.{Block}
use Rattle.tree.specs.declared.block_index.BlockIndex.{BlockIndex}
use Rattle.tree.specs.declared.block_index.Mark.{Mark}
use Rattle.tree.specs.Branches.{on}
use Rattle.tree.specs.State.{State, without_marks}
use Rattle.tree.specs.Nodes.{AreMarks, blocks_of, laid, state_of}
use Rattle.tree.specs.inside.Nodes.{AreUsable}
use Rattle.tree.proofs.Laid.{are_remarked, blocks_there, laid_cleared, of_lent, same_count, usable_before}
use Rattle.tree.proofs.MarkChanges.{comes_back}
use Rattle.tree.proofs.overlay.Overlay.clear.Goals as goal

pub related-requires-clause-kept : goal.related-requires-clause-kept
related-requires-clause-kept c =
    let k = ap (λ (s : State Block). length s.blocks) c.self.view_is in
    let n = same_count c.self.invariant c.tree.inside.nodes.items c.tree.invariant.some (blocks_there c.tree.invariant c.tree.view_is) in
    let m = c.self.invariant.count in
    let r = c.requires in
    let l = ap (λ (l : List BlockIndex). length l) c.as_slice-nodes.ensures.value in
    omega arith

pub take_marks-requires-clause-count : goal.take_marks-requires-clause-count
take_marks-requires-clause-count c =
    ap (λ (l : List Mark). length l) c.as_mut_slice.ensures.value ∙ same_count c.self.invariant c.tree.inside.nodes.items c.tree.invariant.some (blocks_there c.tree.invariant c.tree.view_is)
    ∙ sym (ap (λ (l : List BlockIndex). length l) c.as_slice-nodes.ensures.value)

pub take_marks-requires-clause-usable : goal.take_marks-requires-clause-usable
take_marks-requires-clause-usable c =
    subst (λ (l : List BlockIndex). AreUsable (state_of l c.as_mut_slice.result.now []) c.as_mut_slice.result.now (length l)) (sym c.as_slice-nodes.ensures.value)
    (subst (λ (l : List Mark). AreUsable (state_of c.tree.inside.nodes.items l []) l (length c.tree.inside.nodes.items)) (sym c.as_mut_slice.ensures.value)
    (usable_before c.self.invariant c.tree.inside.nodes.items c.tree.invariant.some (blocks_there c.tree.invariant c.tree.view_is)))

pub invariant_of-self : goal.invariant_of-self
invariant_of-self c =
    let ns = c.tree.inside.nodes.items in
    let blocks = blocks_there c.tree.invariant c.tree.view_is in
    let n = same_count c.self.invariant ns c.tree.invariant.some blocks in
    let told = c.as_slice.result.now in
    let is = of_lent c.take_marks.new.marks (λ q bad. bad && not (get_or told q false)) c.as_slice-nodes.ensures.value c.as_mut_slice.ensures.value c.take_marks.ensures in
    subst (λ (l : List Mark). AreMarks c.self.inside.tree.now l) (sym (comes_back c.take_marks.new.marks c.self.inside.marks.items c.as_mut_slice.result.now c.self.inside.marks.len c.as_mut_slice.ensures.value c.as_mut_slice.ensures.len (is.count ∙ sym n)))
    (are_remarked c.self.invariant ns c.tree.invariant.some blocks c.take_marks.new.marks (λ q bad. bad && not (get_or told q false)) refl is)

pub returns-clause-ok : goal.returns-clause-ok
returns-clause-ok c =
    let ns = c.tree.inside.nodes.items in
    let p = c.args.place in
    let blocks = blocks_there c.tree.invariant c.tree.view_is in
    let n = same_count c.self.invariant ns c.tree.invariant.some blocks in
    let told = c.as_slice.result.now in
    let len = ap (λ (l : List BlockIndex). length l) c.as_slice-nodes.ensures.value in
    let is = of_lent c.take_marks.new.marks (λ q bad. bad && not (get_or told q false)) c.as_slice-nodes.ensures.value c.as_mut_slice.ensures.value c.take_marks.ensures in
    ap (λ (l : List Mark). laid c.self.inside.tree.now l) (comes_back c.take_marks.new.marks c.self.inside.marks.items c.as_mut_slice.result.now c.self.inside.marks.len c.as_mut_slice.ensures.value c.as_mut_slice.ensures.len (is.count ∙ sym n))
    ∙ laid_cleared c.self.invariant ns c.tree.invariant.some blocks c.take_marks.new.marks p told
    (λ x h. ap (λ (y : List Bool). get_or y x false) c.as_slice.ensures.value ∙ c.in_ok-related.ensures.related x (omega arith)
    ∙ ap (λ (y : List BlockIndex). on (blocks_of y) p x || on (blocks_of y) x p) c.as_slice-nodes.ensures.value) is
    ∙ ap (λ (s : State Block). without_marks s p) c.self.view_is
