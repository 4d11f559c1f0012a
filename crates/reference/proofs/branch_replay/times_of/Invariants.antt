use Rattle.std.proofs.Common.{◌≡◌, map, take}
use Rattle.tree.specs.MedianTime.{time_of}
use Rattle.reference.specs.inside.Replay.{blocks_in}
use Rattle.reference.proofs.branch_replay.times_of.Given as goal

abbrev pub invariant-loop-index : goal.invariant-loop-index
invariant-loop-index l = l.times.items ≡ map time_of (blocks_in l.held (take l.index l.branch))
