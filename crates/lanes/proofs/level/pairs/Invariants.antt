use Rattle.lanes.specs.inside.Level.{IsPairedUpTo}
use Rattle.lanes.proofs.level.pairs.Given as goal

abbrev pub invariant-loop-k : goal.invariant-loop-k
invariant-loop-k l = IsPairedUpTo l.fn.level l.level l.k
