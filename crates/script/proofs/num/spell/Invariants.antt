use Rattle.std.proofs.Common.{◌≡◌, ◌++◌}
use Rattle.script.specs.Num.{shortest_bytes_with}
use Rattle.script.proofs.num.spell.Given as goal

abbrev pub invariant-loop-left : goal.invariant-loop-left
invariant-loop-left l = l.bytes.items ++ shortest_bytes_with 9 l.sign l.left ≡ l.initial.bytes.items ++ shortest_bytes_with 9 l.sign l.n

abbrev pub decreases-loop-left : goal.decreases-loop-left
decreases-loop-left l = l.left
