use Rattle.std.proofs.Common.{◌≡◌, ◌<◌, ◌∷◌, ◌++◌, length, take}
use Rattle.tree.specs.Nodes.{blocks_of}
use Rattle.tree.proofs.Times.{times_on}
use Rattle.tree.proofs.median_time.median_on.Given as goal

abbrev pub invariant-loop-count : goal.invariant-loop-count
invariant-loop-count l =
    (l.next < length l.nodes) × (length l.times ≡ 11) × (take l.count l.times ++ times_on (blocks_of l.nodes) l.next ≡ l.time ∷ times_on (blocks_of l.nodes) l.parent)
