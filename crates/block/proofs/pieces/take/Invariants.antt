use Rattle.std.proofs.Common.{◌≡◌, ◌-◌, ◌≤◌, ◌++◌, length}
use Rattle.block.proofs.pieces.take.Given as goal

abbrev pub invariant-loop-bytes : goal.invariant-loop-bytes
invariant-loop-bytes g l =
    (length l.bytes.items ≤ l.len) × (g.R.Source.to_come l.fn.source ≡ l.bytes.items ++ g.R.Source.to_come l.source)
    × (g.R.Source.failed l.source ≡ g.R.Source.failed l.fn.source)

abbrev pub decreases-loop-bytes : goal.decreases-loop-bytes
decreases-loop-bytes g l = l.len - length l.bytes.items
