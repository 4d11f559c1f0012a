-- BIP 68: relative locks.
use Rattle.std.specs.Prelude.{ℕ, ◌+◌, ◌*◌, ◌||◌, Bool, not, List, nat_le, if◌then◌else◌}
use Rattle.std.specs.List.{list_all, zip}
use Rattle.txn.specs.Tx.{Tx}
use Rattle.txn.specs.Sequence.{has_relative_locks, is_disabled, is_time, duration}
use Rattle.locks.specs.declared.relative.LockStart.{LockStart}

-- the seconds of a unit of time (2 to the `SEQUENCE_LOCKTIME_GRANULARITY`)
abbrev pub granularity : ℕ
granularity = 512

-- it is disabled, or so many units of time have passed, or so many blocks
unfoldable pub is_met : ℕ → ℕ → ℕ → LockStart → Bool
is_met height cutoff sequence start =
    is_disabled sequence
    || (if is_time sequence then nat_le (start.median + granularity * duration sequence) cutoff else nat_le (start.height + duration sequence) height)

-- each input's lock is met, by itself, where the transaction has relative locks
unfoldable pub are_met : Tx → List LockStart → ℕ → ℕ → Bool
are_met tx starts height cutoff =
    not (has_relative_locks tx)
    || list_all (λ p. is_met height cutoff p.0.sequence p.1) (zip tx.inputs starts)
