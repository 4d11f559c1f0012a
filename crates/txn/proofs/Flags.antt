-- A flag that is set, as a bit.
use Rattle.std.proofs.Common.{◌≡◌, ℕ, zero, suc, ◌*◌, ◌<◌, not, eqb, refl, arith}
use borrow.Author.Tests.{ne_eqb}

-- a bit in its place is a number other than 0 where it is 1
pub set_bit : (b w : ℕ) → b < 2 → not (eqb (b * suc w) 0) ≡ eqb b 1
set_bit zero w lt =
    let none : 0 * suc w ≡ 0 = omega arith in rw none refl
set_bit (suc zero) w lt =
    let whole : 1 * suc w ≡ suc w = omega arith in rw (whole, ne_eqb (suc w) 0 (λ e. omega arith)) refl
set_bit (suc (suc b)) w lt = absurd (omega arith)
