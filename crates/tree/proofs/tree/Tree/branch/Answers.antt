use Rattle.std.proofs.Common.{◌≡◌, ℕ, List, length, ap, ◌∙◌, subst, arith, IfOk}
use Rattle.block.specs.declared.block.Block.{Block}
use Rattle.tree.specs.declared.block_index.BlockIndex.{BlockIndex}
use Rattle.tree.specs.Branches.{Blocks, branch}
use Rattle.tree.specs.Nodes.{blocks_of}
use Rattle.tree.proofs.Views.{kept}
use Rattle.tree.proofs.Changes.{blocks-view}
use Rattle.tree.proofs.tree.Tree.branch.Goals as goal

pub branch_of-requires-clause-kept : goal.branch_of-requires-clause-kept
branch_of-requires-clause-kept c =
    let k = kept c.self.invariant c.self.view_is in
    let r = c.requires in
    let e = ap (λ (l : List BlockIndex). length l) c.as_slice.ensures.value in
    omega arith

pub returns : goal.returns
returns c =
    subst (λ (l : List ℕ). IfOk c.branch_of.result (λ places. places.items ≡ l))
    (ap (λ (l : List BlockIndex). branch (blocks_of l) c.args.place) c.as_slice.ensures.value
    ∙ ap (λ (t : Blocks Block). branch t c.args.place) (blocks-view c.self.inside.nodes.items c.self.inside.marks.items c.self.inside.calls.items c.self.view_is))
    c.branch_of.ensures
