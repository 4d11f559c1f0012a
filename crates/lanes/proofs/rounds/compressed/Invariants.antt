use Rattle.std.proofs.Common.{◌≡◌, ℕ, List, ◌<◌, ◌*◌, slice_index}
use Rattle.sha2.specs.Sha256.{IsRoundsAt, word_at}
use Rattle.lanes.specs.Lane.{lanes}
use Rattle.lanes.specs.State.{lane, lane_of}
use Rattle.lanes.proofs.rounds.compressed.Given as goal

abbrev pub invariant-schedule : goal.invariant-schedule
invariant-schedule loop = (l : ℕ) → l < lanes → (b : List ℕ) → ((k : ℕ) → k < 16 → slice_index (lane_of loop.words l) k ≡ word_at b (4 * k))
    → IsRoundsAt b (lane loop.state l) (lane_of loop.w l) (lane loop.v l) (16 * loop.turn)
