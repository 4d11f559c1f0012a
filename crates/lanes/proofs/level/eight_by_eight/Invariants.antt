use Rattle.std.proofs.Common.{◌*◌}
use Rattle.lanes.specs.inside.Level.{IsPairedUpTo}
use Rattle.lanes.proofs.level.eight_by_eight.Given as goal

abbrev pub invariant-loop-k : goal.invariant-loop-k
invariant-loop-k l = IsPairedUpTo l.fn.level l.level (8 * l.k)
