use Rattle.std.proofs.Common.{◌≡◌, ◌-◌, length, reverse, drop}
use Rattle.reference.specs.inside.Replay.{medians_in}
use Rattle.reference.proofs.branch_replay.medians.Given as goal

abbrev pub invariant-loop-height : goal.invariant-loop-height
invariant-loop-height l = l.medians.items ≡ reverse (medians_in (drop (length l.times - l.height) l.times))
