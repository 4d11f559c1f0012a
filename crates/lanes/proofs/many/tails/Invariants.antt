use Rattle.std.proofs.Common.{◌≡◌, ◌<◌, ℕ, [], length, slice_index_or}
use Rattle.lanes.specs.Lane.{lanes}
use Rattle.lanes.specs.inside.Messages.{message_at}
use Rattle.lanes.specs.inside.PaddedBlocks.{IsTail}
use Rattle.lanes.proofs.many.tails.Given as goal

abbrev pub invariant-lanes : goal.invariant-lanes
invariant-lanes l = (length l.tails ≡ lanes) × ((j : ℕ) → j < l.k → IsTail (message_at l.messages j) (slice_index_or l.tails j []))
