use Rattle.std.proofs.Common.{◌≡◌, ◌<◌, ℕ, length}
use Rattle.sighash.specs.inside.Ahead.{code_at}
use Rattle.sighash.proofs.ahead.are_alike.Given as goal

abbrev pub invariant-loop-lane : goal.invariant-loop-lane
invariant-loop-lane l = (j : ℕ) → j < l.lane → length (code_at l.codes j) ≡ l.len
