use Rattle.std.proofs.Common.{◌≡◌, ℕ, List, ◌<◌, ◌*◌}
use Rattle.sha2.specs.Sha256.{rounds, schedule}
use Rattle.lanes.specs.Lane.{lanes}
use Rattle.lanes.specs.State.{lane}
use Rattle.lanes.specs.inside.Rounds.{AreSums}
use Rattle.lanes.proofs.rounds.after_known.Given as goal

abbrev pub invariant-rounds : goal.invariant-rounds
invariant-rounds loop = (l : ℕ) → l < lanes → (b : List ℕ) → AreSums loop.sums b → lane loop.v l ≡ rounds (lane loop.state l) (schedule b 48) (8 * loop.turn)
