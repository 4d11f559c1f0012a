use Rattle.std.proofs.Common.{◌≡◌, take}
use Rattle.block.specs.declared.block.Block.{Block}
use Rattle.tree.specs.Branches.{Blocks}
use Rattle.tree.specs.Nodes.{blocks_of}
use Rattle.tree.proofs.tree.Tree.same_blocks.Given as goal

abbrev pub invariant-loop-place : goal.invariant-loop-place
invariant-loop-place l = ◌≡◌ {A = Blocks Block} l.copy.blocks (blocks_of (take l.place l.nodes))
