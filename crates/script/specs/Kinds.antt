-- Kinds of scripts that the rules know.
use Rattle.std.specs.Prelude.{ℕ, ◌==◌, List, length, Bool, ◌&&◌, ◌||◌, nat_lt, nat_le, slice_index}
use Rattle.std.specs.List.{list_all}
use Rattle.script.specs.Op.{number_of}
use Rattle.script.specs.Ops.{ops, is_whole}

-- wholly readable, with no opcode above OP_16 (Bitcoin Core's `IsPushOnly`)
unfoldable pub is_push_only : List ℕ → Bool
is_push_only script = list_all (λ op. nat_le (number_of op) 0x60) (ops script) && is_whole script

-- BIP 16: HASH160, a push of 20 bytes, EQUAL
unfoldable pub is_p2sh : List ℕ → Bool
is_p2sh script =
    (length script == 23) && (slice_index script 0 == 0xa9) && (slice_index script 1 == 20) && (slice_index script 22 == 0x87)

-- bytes of a script that may run (Bitcoin Core's `MAX_SCRIPT_SIZE`)
abbrev pub max_script_size : ℕ
max_script_size = 10000

-- begins with OP_RETURN, or is longer than a script may be (Bitcoin Core's `IsUnspendable`)
unfoldable pub is_unspendable : List ℕ → Bool
is_unspendable script = (number_of script == 0x6a) || nat_lt max_script_size (length script)
