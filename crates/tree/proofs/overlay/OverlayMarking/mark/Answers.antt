use Rattle.std.proofs.Common.{◌||◌, eqb, List, [], length, sym, ap, ◌∙◌, subst, arith}
use Rattle.std.proofs.lemmas.Bool.{ne_eqb}
use Rattle.block.specs.declared.block.Block.{Block}
use Rattle.tree.specs.declared.block_index.BlockIndex.{BlockIndex}
use Rattle.tree.specs.declared.block_index.Mark.{Mark}
use Rattle.tree.specs.State.{State, with_mark}
use Rattle.tree.specs.Nodes.{AreMarks, laid, state_of}
use Rattle.tree.specs.inside.Nodes.{AreUsable}
use Rattle.tree.proofs.Laid.{are_remarked, blocks_there, laid_marked, of_lent, same_count, usable_before}
use Rattle.tree.proofs.MarkChanges.{comes_back}
use Rattle.tree.proofs.overlay.OverlayMarking.mark.Goals as goal

pub mark_block-requires-clause-count : goal.mark_block-requires-clause-count
mark_block-requires-clause-count c =
    ap (λ (l : List Mark). length l) c.as_mut_slice.ensures.value ∙ same_count c.self.invariant c.tree.inside.nodes.items c.tree.invariant.some (blocks_there c.tree.invariant c.tree.view_is)
    ∙ sym (ap (λ (l : List BlockIndex). length l) c.as_slice.ensures.value)

pub mark_block-requires-clause-usable : goal.mark_block-requires-clause-usable
mark_block-requires-clause-usable c =
    subst (λ (l : List BlockIndex). AreUsable (state_of l c.as_mut_slice.result.now []) c.as_mut_slice.result.now (length l)) (sym c.as_slice.ensures.value)
    (subst (λ (l : List Mark). AreUsable (state_of c.tree.inside.nodes.items l []) l (length c.tree.inside.nodes.items)) (sym c.as_mut_slice.ensures.value)
    (usable_before c.self.invariant c.tree.inside.nodes.items c.tree.invariant.some (blocks_there c.tree.invariant c.tree.view_is)))

pub mark_block-requires-clause-kept : goal.mark_block-requires-clause-kept
mark_block-requires-clause-kept c =
    let k = ap (λ (s : State Block). length s.blocks) c.self.view_is in
    let n = same_count c.self.invariant c.tree.inside.nodes.items c.tree.invariant.some (blocks_there c.tree.invariant c.tree.view_is) in
    let m = c.self.invariant.count in
    let r = c.requires.kept in
    let l = ap (λ (l : List BlockIndex). length l) c.as_slice.ensures.value in
    omega arith

pub invariant_of-self : goal.invariant_of-self
invariant_of-self c =
    let ns = c.tree.inside.nodes.items in
    let blocks = blocks_there c.tree.invariant c.tree.view_is in
    let n = same_count c.self.invariant ns c.tree.invariant.some blocks in
    let z = c.requires.not_genesis in
    let is = of_lent c.mark_block.new.marks (λ q bad. bad || eqb q c.args.place) c.as_slice.ensures.value c.as_mut_slice.ensures.value c.mark_block.ensures in
    subst (λ (l : List Mark). AreMarks c.self.inside.tree.now l) (sym (comes_back c.mark_block.new.marks c.self.inside.marks.items c.as_mut_slice.result.now c.self.inside.marks.len c.as_mut_slice.ensures.value c.as_mut_slice.ensures.len (is.count ∙ sym n)))
    (are_remarked c.self.invariant ns c.tree.invariant.some blocks c.mark_block.new.marks (λ q bad. bad || eqb q c.args.place) (ne_eqb 0 c.args.place (λ e. omega arith)) is)

pub returns : goal.returns
returns c =
    let ns = c.tree.inside.nodes.items in
    let blocks = blocks_there c.tree.invariant c.tree.view_is in
    let n = same_count c.self.invariant ns c.tree.invariant.some blocks in
    let is = of_lent c.mark_block.new.marks (λ q bad. bad || eqb q c.args.place) c.as_slice.ensures.value c.as_mut_slice.ensures.value c.mark_block.ensures in
    ap (λ (l : List Mark). laid c.self.inside.tree.now l) (comes_back c.mark_block.new.marks c.self.inside.marks.items c.as_mut_slice.result.now c.self.inside.marks.len c.as_mut_slice.ensures.value c.as_mut_slice.ensures.len (is.count ∙ sym n))
    ∙ laid_marked c.self.invariant ns c.tree.invariant.some blocks c.mark_block.new.marks c.args.place is
    ∙ ap (λ (s : State Block). with_mark s c.args.place) c.self.view_is
