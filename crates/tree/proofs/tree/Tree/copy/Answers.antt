use Rattle.std.proofs.Common.{◌≡◌, ℕ, List, sym, ap, subst, ◌∙◌}
use Rattle.block.specs.declared.block.Block.{Block}
use Rattle.tree.specs.declared.block_index.Mark.{Mark}
use Rattle.tree.specs.Branches.{Blocks}
use Rattle.tree.specs.Nodes.{blocks_of, state_of}
use Rattle.tree.specs.inside.Nodes.{IsRight}
use Rattle.tree.proofs.SameBlocks.{blocks_seen, right_other, state_other}
use Rattle.tree.proofs.tree.Tree.copy.Goals as goal

pub invariant_of-result : goal.invariant_of-result
invariant_of-result c =
    let o = c.copy.inside in
    let i = c.self.inside in
    let marks : ◌≡◌ {A = List Mark} c.in_ok-marks.marks.items i.marks.items = c.in_ok-marks.ensures.items ∙ c.as_slice.ensures.value in
    let calls : ◌≡◌ {A = List ℕ} c.in_ok-calls.calls.items i.calls.items = c.in_ok-calls.ensures.items ∙ c.as_slice-2.ensures.value in
    let same : ◌≡◌ {A = Blocks Block} (blocks_of o.nodes.items) (blocks_of i.nodes.items) =
    blocks_seen o.nodes.items o.marks.items o.calls.items _ c.copy.view_is ∙ c.in_ok-copy.ensures ∙ sym (blocks_seen i.nodes.items i.marks.items i.calls.items _ c.self.view_is) in
    subst (λ (l : List Mark). IsRight o.nodes.items l c.in_ok-calls.calls.items o.ids.entries o.leaves.keys) (sym marks)
    (subst (λ (l : List ℕ). IsRight o.nodes.items i.marks.items l o.ids.entries o.leaves.keys) (sym calls) (right_other c.self.invariant c.copy.invariant same))

pub returns : goal.returns
returns c =
    let o = c.copy.inside in
    let i = c.self.inside in
    let marks : ◌≡◌ {A = List Mark} c.in_ok-marks.marks.items i.marks.items = c.in_ok-marks.ensures.items ∙ c.as_slice.ensures.value in
    let calls : ◌≡◌ {A = List ℕ} c.in_ok-calls.calls.items i.calls.items = c.in_ok-calls.ensures.items ∙ c.as_slice-2.ensures.value in
    let same : ◌≡◌ {A = Blocks Block} (blocks_of o.nodes.items) (blocks_of i.nodes.items) =
    blocks_seen o.nodes.items o.marks.items o.calls.items _ c.copy.view_is ∙ c.in_ok-copy.ensures ∙ sym (blocks_seen i.nodes.items i.marks.items i.calls.items _ c.self.view_is) in
    ap (λ (l : List Mark). state_of o.nodes.items l c.in_ok-calls.calls.items) marks
    ∙ ap (λ (l : List ℕ). state_of o.nodes.items i.marks.items l) calls
    ∙ state_other i.nodes.items o.nodes.items i.marks.items i.calls.items same ∙ c.self.view_is
