use Rattle.std.proofs.Common.{◌≡◌, ◌||◌, length}
use Rattle.block.specs.Merkle.{root, twin}
use Rattle.block.proofs.root.merkle.Given as goal

abbrev pub invariant-loop-level : goal.invariant-loop-level
invariant-loop-level l = (root l.level.items ≡ root l.ids) × ((l.twin || twin l.level.items) ≡ twin l.ids)

abbrev pub decreases-loop-level : goal.decreases-loop-level
decreases-loop-level l = length l.level.items
