use Rattle.std.proofs.Common.{◌≡◌, ◌*◌, drop}
use Rattle.block.specs.Merkle.{has_twin}
use Rattle.block.proofs.root.has_twin.Given as goal

abbrev pub invariant-loop-k : goal.invariant-loop-k
invariant-loop-k l = has_twin (drop (2 * l.k) l.level) ≡ has_twin l.level
