-- The opcodes of BIP 65 and BIP 112.
use Rattle.std.specs.Prelude.{ℕ, ◌==◌, Bool, true, false, not, ◌&&◌, ◌||◌, nat_le}
use Rattle.std.specs.Option.{option_map_or}
use Rattle.txn.specs.Tx.{Tx}
use Rattle.txn.specs.LockTime.{is_height}
use Rattle.txn.specs.Sequence.{sequence_final, has_relative_locks, is_disabled, is_time, duration}
use Rattle.interp.specs.Limits.{max_lock_size}
use Rattle.interp.specs.Stack.{Bytes}
use Rattle.interp.specs.Elements.{natural_of}
use Rattle.interp.specs.ScriptContext.{sequence_of}

abbrev pub is_same : Bool → Bool → Bool
is_same true b = b
is_same false b = not b

-- both are heights or both times; the transaction's is as late at least; and the input's sequence leaves it in force
unfoldable pub locks_until : Tx → ℕ → ℕ → Bool
locks_until tx input n =
    is_same (is_height n) (is_height tx.lock_time) && nat_le n tx.lock_time && not (sequence_of tx input == sequence_final)

-- both are times or both numbers of blocks, and the input waits as long at least
unfoldable pub is_as_long : ℕ → ℕ → Bool
is_as_long n sequence = is_same (is_time n) (is_time sequence) && nat_le (duration n) (duration sequence)

-- a number that is disabled asks for nothing; else the input has a relative lock, and it is as long at least
unfoldable pub locks_for : Tx → ℕ → ℕ → Bool
locks_for tx input n =
    is_disabled n
    || (has_relative_locks tx && not (is_disabled (sequence_of tx input)) && is_as_long n (sequence_of tx input))

-- a number of at most five bytes that isn't negative passes the test
unfoldable pub is_met : (ℕ → Bool) → Bytes → Bool
is_met test a = option_map_or test (natural_of max_lock_size a) false
