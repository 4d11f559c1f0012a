use Rattle.std.proofs.Common.{◌≡◌, ℕ, ◌<◌, false, length, get_or}
use Rattle.tree.specs.Branches.{on}
use Rattle.tree.specs.Nodes.{blocks_of}
use Rattle.tree.proofs.marks.descendants.Given as goal

abbrev pub invariant-loop-next : goal.invariant-loop-next
invariant-loop-next l = (length l.down.items ≡ l.next) × ((x : ℕ) → x < l.next → get_or l.down.items x false ≡ on (blocks_of l.nodes) x l.place)
