use Rattle.std.proofs.Common.{◌≡◌, ◌+◌, List, length, get_or, refl, sym, ap, subst, ◌∙◌, arith}
use Rattle.std.proofs.lemmas.List.{take_all}
use Rattle.block.specs.declared.block.Block.{Block}
use Rattle.tree.specs.declared.block_index.BlockIndex.{BlockIndex}
use Rattle.tree.specs.Branches.{Blocks}
use Rattle.tree.specs.State.{State, opening}
use Rattle.tree.specs.Nodes.{blocks_of}
use Rattle.tree.specs.inside.Nodes.{IsRight}
use Rattle.tree.proofs.SameBlocks.{blocks_seen, can_follow, followed, none-first}
use Rattle.tree.proofs.tree.Tree.same_blocks.Goals as goal

pub loop-place-init : goal.loop-place-init
unfolding opening
loop-place-init c = ap (λ (s : State Block). s.blocks) c.in_ok-copy.ensures ∙ sym (none-first c.as_slice-nodes.result.now)

pub add-requires : goal.add-requires
add-requires c =
    let i = c.self.inside in
    let right = subst (λ (l : List BlockIndex). IsRight l i.marks.items i.calls.items i.ids.entries i.leaves.keys) (sym c.as_slice-nodes.ensures.value) c.self.invariant in
    can_follow right c.loop-place.place c.loop-place.auto.place c.loop-place-test.true c.index-nodes-place.result c.index-nodes-place.is c.loop-place.copy c.loop-place.invariant _ c.in_ok-copy-2.ensures refl refl

pub loop-place-preserved : goal.loop-place-preserved
loop-place-preserved c =
    let i = c.self.inside in
    let right = subst (λ (l : List BlockIndex). IsRight l i.marks.items i.calls.items i.ids.entries i.leaves.keys) (sym c.as_slice-nodes.ensures.value) c.self.invariant in
    ap (λ (s : State Block). s.blocks) c.in_ok-add.ensures.ok
    ∙ followed right c.loop-place.place c.loop-place.auto.place c.loop-place-test.true c.index-nodes-place.result c.index-nodes-place.is c.loop-place.copy c.loop-place.invariant c.in_ok-copy-2.field-0 c.in_ok-copy-2.ensures

pub returns : goal.returns
returns c =
    let i = c.self.inside in
    c.loop-place.invariant ∙ ap blocks_of (take_all c.loop-place.place c.as_slice-nodes.result.now c.loop-place-test.false) ∙ ap (λ (l : List BlockIndex). blocks_of l) c.as_slice-nodes.ensures.value
    ∙ blocks_seen i.nodes.items i.marks.items i.calls.items _ c.self.view_is
