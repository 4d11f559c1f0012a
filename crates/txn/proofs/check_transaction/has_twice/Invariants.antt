use Rattle.std.proofs.Common.{◌≡◌, ◌+◌, ◌<◌, ℕ, get_or, false}
use Rattle.txn.specs.declared.outpoint.OutPoint.{OutPoint}
use Rattle.txn.specs.Check.{same_outpoint}
use Rattle.txn.proofs.check_transaction.has_twice.Given as goal

-- the neighbours so far differ
abbrev pub invariant-loop-later : goal.invariant-loop-later
invariant-loop-later l = (k : ℕ) (d : OutPoint) → k + 1 < l.later → same_outpoint (get_or l.outpoints.items k d) (get_or l.outpoints.items (k + 1) d) ≡ false
