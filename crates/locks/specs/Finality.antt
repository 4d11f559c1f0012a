-- Finality: whether the time has come before which a transaction asks to be in no block.
use Rattle.std.specs.Prelude.{ℕ, ◌==◌, ◌||◌, Bool, nat_lt, if◌then◌else◌}
use Rattle.std.specs.List.{list_all}
use Rattle.txn.specs.Tx.{Tx}
use Rattle.txn.specs.LockTime.{is_height}
use Rattle.txn.specs.Sequence.{sequence_final}

-- a lock time is a height or a time
abbrev pub has_passed : ℕ → ℕ → ℕ → Bool
has_passed lock_time height cutoff = if is_height lock_time then nat_lt lock_time height else nat_lt lock_time cutoff

-- no lock time, or one that has passed, or one that no input asks for (Bitcoin Core's IsFinalTx)
unfoldable pub is_final : Tx → ℕ → ℕ → Bool
is_final tx height cutoff =
    (tx.lock_time == 0)
    || has_passed tx.lock_time height cutoff
    || list_all (λ input. input.sequence == sequence_final) tx.inputs
