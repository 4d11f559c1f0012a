-- The rounds of a block that is the same in each lane.
use Rattle.std.specs.Prelude.{◌≡◌, ℕ, ◌<◌, List, slice_index}
use Rattle.sha2.specs.Sha256.{add32, round_constants, schedule}

-- the word of each round with its constant added
abbrev pub AreSums : List ℕ → List ℕ → Type 0
AreSums sums block = (t : ℕ) → t < 64 → slice_index sums t ≡ add32 (slice_index (schedule block 48) t) (slice_index round_constants t)
