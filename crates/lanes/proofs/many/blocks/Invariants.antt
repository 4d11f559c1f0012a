use Rattle.std.proofs.Common.{◌≡◌, ◌<◌, ℕ, [], length, slice_index_or}
use Rattle.lanes.specs.Lane.{lanes}
use Rattle.lanes.specs.inside.Messages.{message_at}
use Rattle.lanes.specs.inside.PaddedBlocks.{block, block_count}
use Rattle.lanes.proofs.many.blocks.Given as goal

abbrev pub invariant-lanes : goal.invariant-lanes
invariant-lanes l = (length l.blocks ≡ lanes)
    × ((j : ℕ) → j < l.k → l.i < block_count (message_at l.messages j) → slice_index_or l.blocks j [] ≡ block (message_at l.messages j) l.i)
