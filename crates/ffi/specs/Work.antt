-- A block's work, by the bits of its header (Bitcoin Core's `GetBlockProof`).
use Rattle.std.specs.Prelude.{ℕ, ◌+◌, ◌/◌, ◌^◌, ◌||◌, ◌==◌, if◌then◌else◌}
use Rattle.ffi.specs.Bits.{is_negative, overflows, target}

-- how many hashes it takes on average to meet the target; 0 where it is 0 or has a fault
unfoldable pub work : ℕ → ℕ
work bits =
    if is_negative bits || overflows bits || (target bits == 0) then 0 else 2 ^ 256 / (target bits + 1)
