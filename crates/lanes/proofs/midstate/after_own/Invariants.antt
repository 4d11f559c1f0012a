use Rattle.std.proofs.Common.{ℕ, List, ◌*◌, ◌<◌, ◌++◌, take}
use Rattle.lanes.specs.Lane.{lanes}
use Rattle.lanes.specs.Midstate.{IsValueAfter, part}
use Rattle.lanes.specs.State.{lane}
use Rattle.lanes.proofs.midstate.after_own.Given as goal

abbrev pub invariant-turns : goal.invariant-turns
invariant-turns loop = (l : ℕ) → l < lanes → (before : List ℕ) → IsValueAfter before (lane loop.fn.state l) → IsValueAfter (before ++ take (64 * loop.k) (part loop.parts l)) (lane loop.state l)
