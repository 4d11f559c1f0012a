use Rattle.std.proofs.Common.{◌≡◌, ◌<◌, ℕ, length, slice_index}
use Rattle.lanes.specs.Lane.{lanes}
use Rattle.lanes.specs.inside.Messages.{message_at}
use Rattle.lanes.specs.inside.PaddedBlocks.{block_count}
use Rattle.lanes.proofs.many.block_counts.Given as goal

abbrev pub invariant-lanes : goal.invariant-lanes
invariant-lanes l = (length l.counts ≡ lanes) × ((j : ℕ) → j < l.k → slice_index l.counts j ≡ block_count (message_at l.messages j))
