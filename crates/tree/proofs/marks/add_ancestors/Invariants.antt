use Rattle.std.proofs.Common.{◌≡◌, ℕ, ◌<◌, ◌||◌, false, length, get_or}
use Rattle.tree.specs.Branches.{on}
use Rattle.tree.specs.Nodes.{blocks_of}
use Rattle.tree.proofs.marks.add_ancestors.Given as goal

abbrev pub invariant-down : goal.invariant-down
invariant-down l =
    (l.next < length l.nodes) × (length l.related.items ≡ length l.nodes)
    × ((x : ℕ) → x < length l.nodes → (on (blocks_of l.nodes) l.next x || get_or l.related.items x false) ≡ (on (blocks_of l.nodes) l.place x || get_or l.fn.related.items x false))

abbrev pub decreases-down : goal.decreases-down
decreases-down l = l.next
