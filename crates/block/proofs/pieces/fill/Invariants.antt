use Rattle.std.proofs.Common.{◌≡◌, ◌-◌, ◌≤◌, ◌++◌, length, take}
use Rattle.block.specs.Blk.{Remain}
use Rattle.block.proofs.pieces.fill.Given as goal

abbrev pub invariant-loop-at : goal.invariant-loop-at
invariant-loop-at g l =
    (l.at ≤ length l.buffer) × (length l.buffer ≡ length l.fn.buffer) × (g.R.Source.to_come l.fn.source ≡ take l.at l.buffer ++ g.R.Source.to_come l.source)
    × (g.R.Source.failed l.source ≡ g.R.Source.failed l.fn.source) × Remain (g.R.Source.to_come l.fn.source) (g.R.Source.to_come l.source)

abbrev pub decreases-loop-at : goal.decreases-loop-at
decreases-loop-at g l = length l.fn.buffer - l.at
