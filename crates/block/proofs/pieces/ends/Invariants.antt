use Rattle.std.proofs.Common.{◌≡◌, List, ℕ, ◌++◌, length}
use Rattle.block.specs.Blk.{IsEnd}
use Rattle.block.proofs.pieces.ends.Given as goal

abbrev pub invariant-loop-count : goal.invariant-loop-count
invariant-loop-count g l =
    (length l.piece ≡ 4096) × (g.R.Source.failed l.source ≡ g.R.Source.failed l.fn.source)
    × ((came : List ℕ) × IsEnd came × (g.R.Source.to_come l.fn.source ≡ came ++ g.R.Source.to_come l.source))

abbrev pub decreases-loop-count : goal.decreases-loop-count
decreases-loop-count g l = length (g.R.Source.to_come l.source)
