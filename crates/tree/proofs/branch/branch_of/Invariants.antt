use Rattle.std.proofs.Common.{◌≡◌, ◌<◌, ◌++◌, length}
use Rattle.tree.specs.Branches.{branch}
use Rattle.tree.specs.Nodes.{blocks_of}
use Rattle.tree.proofs.branch.branch_of.Given as goal

abbrev pub invariant-down : goal.invariant-down
invariant-down l = (l.next < length l.nodes) × (l.places.items ++ branch (blocks_of l.nodes) l.next ≡ branch (blocks_of l.nodes) l.place)

abbrev pub decreases-down : goal.decreases-down
decreases-down l = l.next
