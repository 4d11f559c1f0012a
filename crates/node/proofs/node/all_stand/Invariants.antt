use Rattle.std.proofs.Common.{◌≡◌, ℕ, ◌<◌, Some}
use Rattle.std.specs.Prelude.{slice_get}
use Rattle.node.specs.Pass.{Pass, IsStanding}
use Rattle.node.proofs.node.all_stand.Given as goal

abbrev pub invariant-loop-k : goal.invariant-loop-k
invariant-loop-k g l = (j : ℕ) (p : Pass) → j < l.k → slice_get l.seats j ≡ Some p → IsStanding l.history.journal p
