use Rattle.std.proofs.Common.{◌≡◌, ℕ, ◌<◌, ◌*◌, length, slice_index}
use Rattle.sha2.specs.Sha256.{word_at}
use Rattle.lanes.proofs.schedule.first_words.Given as goal

abbrev pub invariant-words : goal.invariant-words
invariant-words l = (length l.words ≡ 64) × ((j : ℕ) → j < l.t → slice_index l.words j ≡ word_at l.block (4 * j))
