-- What an input's sequence number asks for (BIPs 65, 68 and 112; Bitcoin Core's `CTxIn`).
use Rattle.std.specs.Prelude.{ℕ, ◌%◌, ◌^◌, ◌==◌, Bool, nat_le}
use Rattle.std.specs.Int.{w32, cast_unsigned, bit_at}
use Rattle.txn.specs.Tx.{Tx}

-- the number that asks for no lock time (`SEQUENCE_FINAL`)
abbrev pub sequence_final : ℕ
sequence_final = 0xffffffff

-- BIP 68: the version from which on, as an unsigned number, a transaction has relative locks
abbrev pub has_relative_locks : Tx → Bool
has_relative_locks tx = nat_le 2 (cast_unsigned w32 tx.version)

-- the bit by which a relative lock is disabled (`SEQUENCE_LOCKTIME_DISABLE_FLAG`)
abbrev pub disable_flag : ℕ
disable_flag = 31

abbrev pub is_disabled : ℕ → Bool
is_disabled sequence = bit_at sequence disable_flag == 1

-- the bit of a relative lock that is a time, and not a number of blocks (`SEQUENCE_LOCKTIME_TYPE_FLAG`)
abbrev pub type_flag : ℕ
type_flag = 22

abbrev pub is_time : ℕ → Bool
is_time sequence = bit_at sequence type_flag == 1

-- for how long: the low 16 bits (`SEQUENCE_LOCKTIME_MASK`)
abbrev pub duration : ℕ → ℕ
duration sequence = sequence % 2 ^ 16
