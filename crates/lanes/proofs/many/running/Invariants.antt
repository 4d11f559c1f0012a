use Rattle.std.proofs.Common.{◌≡◌, ◌<◌, ◌≤◌, ℕ, length, slice_index}
use Rattle.lanes.specs.Lane.{lanes}
use Rattle.lanes.proofs.many.running.Given as goal

abbrev pub invariant-lanes : goal.invariant-lanes
invariant-lanes l = (length l.runs ≡ lanes)
    × ((j : ℕ) → j < l.k → l.i < slice_index l.counts j → slice_index l.runs j ≡ 1)
    × ((j : ℕ) → j < l.k → slice_index l.counts j ≤ l.i → slice_index l.runs j ≡ 0)
