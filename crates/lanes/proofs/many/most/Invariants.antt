use Rattle.std.proofs.Common.{◌<◌, ◌≤◌, ℕ, slice_index}
use Rattle.lanes.proofs.many.most.Given as goal

abbrev pub invariant-lanes : goal.invariant-lanes
invariant-lanes l = (j : ℕ) → j < l.k → slice_index l.counts j ≤ l.most
