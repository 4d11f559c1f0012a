use Rattle.std.proofs.Common.{◌≡◌, ◌*◌, ◌<◌, ℕ, [], length, slice_index, slice_index_or}
use Rattle.sha2.specs.Sha256.{word_at}
use Rattle.lanes.specs.Lane.{lanes}
use Rattle.lanes.proofs.many.words.Given as goal

abbrev pub invariant-lanes : goal.invariant-lanes
invariant-lanes l = (length l.words ≡ lanes) × ((j : ℕ) → j < l.k → slice_index l.words j ≡ word_at (slice_index_or l.blocks j []) (4 * l.i))
