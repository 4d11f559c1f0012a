-- The spelling of a number is short enough to be pushed by one opcode.
use Rattle.std.proofs.Common.{ℕ, zero, suc, ◌+◌, ◌/◌, ◌≤◌, length, ℤ, pos, negsuc, ⊎_elim, arith}
use Rattle.std.proofs.lemmas.Bool.{cases_lt, lt-ltb, le-ltb}
use Rattle.script.specs.Num.{shortest_bytes, shortest_bytes_with}

short-with : (most sign n : ℕ) → length (shortest_bytes_with most sign n) ≤ most
unfolding shortest_bytes_with
short-with zero sign n = omega arith
short-with (suc most) sign n =
    let others = short-with most sign (n / 256) in
    ⊎_elim (λ below. rw (lt-ltb n 128 below) (omega arith)) (λ past. rw (le-ltb n 128 past) (omega arith)) (cases_lt n 128)

pub short : (z : ℤ) → length (shortest_bytes z) ≤ 9
unfolding shortest_bytes
short (pos zero) = omega arith
short (pos (suc n)) = short-with 9 0 (suc n)
short (negsuc n) = short-with 9 128 (suc n)
