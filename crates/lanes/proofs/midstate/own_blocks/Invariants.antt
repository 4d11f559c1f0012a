use Rattle.std.proofs.Common.{◌≡◌, ℕ, ◌*◌, ◌<◌, [], length, take, drop, slice_index_or}
use Rattle.lanes.specs.Lane.{lanes}
use Rattle.lanes.specs.Midstate.{part}
use Rattle.lanes.proofs.midstate.own_blocks.Given as goal

abbrev pub invariant-lanes : goal.invariant-lanes
invariant-lanes l = (length l.blocks ≡ lanes) × ((j : ℕ) → j < l.l → slice_index_or l.blocks j [] ≡ take 64 (drop (64 * l.k) (part l.parts j)))
