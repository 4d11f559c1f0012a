use Rattle.std.proofs.Common.{◌≡◌, ◌<◌, ◌++◌, length}
use Rattle.tree.specs.Branches.{branch}
use Rattle.reference.specs.inside.Replay.{blocks_of}
use Rattle.reference.proofs.kept_block.branch_of.Given as goal

abbrev pub invariant-down : goal.invariant-down
invariant-down l = (l.next < length l.held) × (l.places.items ++ branch (blocks_of l.held) l.next ≡ branch (blocks_of l.held) l.place)

abbrev pub decreases-down : goal.decreases-down
decreases-down l = l.next
