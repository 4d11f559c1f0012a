use Rattle.std.proofs.Common.{◌≡◌, ◌*◌, ◌<◌, ℕ, length, slice_index}
use Rattle.sha2.specs.Sha256.{word_at}
use Rattle.lanes.specs.Lane.{lanes}
use Rattle.lanes.specs.inside.Level.{pair_at}
use Rattle.lanes.proofs.level.words.Given as goal

abbrev pub invariant-lanes : goal.invariant-lanes
invariant-lanes l = (length l.words ≡ lanes) × ((j : ℕ) → j < l.k → length (pair_at l.ids j) ≡ 64) × ((j : ℕ) → j < l.k → slice_index l.words j ≡ word_at (pair_at l.ids j) (4 * l.i))
