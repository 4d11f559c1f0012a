use Rattle.std.proofs.Common.{◌≡◌, ℕ, ◌<◌, length, slice_index}
use Rattle.sha2.specs.Sha256.{schedule}
use Rattle.lanes.proofs.schedule.schedule.Given as goal

abbrev pub invariant-words : goal.invariant-words
invariant-words l = (length l.words ≡ 64) × ((j : ℕ) → j < l.t → slice_index l.words j ≡ slice_index (schedule l.block 48) j)
