use Rattle.std.proofs.Common.{◌≤◌}
use Rattle.vectors.proofs.coins_vectors.LayerRun.compare.Given as goal

abbrev pub invariant-loop-number : goal.invariant-loop-number
invariant-loop-number l = l.next ≤ l.number
