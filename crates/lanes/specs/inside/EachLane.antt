-- What a vector has in each lane.
use Rattle.std.specs.Prelude.{◌≡◌, ◌<◌, ℕ, List, length, slice_index}
use Rattle.lanes.specs.Lane.{lanes}

-- the vector has the word f l in each lane l
pub record EachLane (vector : List ℕ) (f : ℕ → ℕ) : Type 0 where
  pub len : length vector ≡ lanes
  pub at : (l : ℕ) → l < lanes → slice_index vector l ≡ f l
