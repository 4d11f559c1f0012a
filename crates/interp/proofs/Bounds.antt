-- Operands of at most four bytes are below 2 ^ 31.
use Rattle.std.proofs.Common.{◌≡◌, ℕ, zero, suc, ◌^◌, ◌<◌, ◌≤◌, List, [], ◌∷◌, Bool, true, false, Some, length, ⊎_elim, ℤ, pos, negsuc, ◌<ℤ◌, subst, arith}
use Rattle.std.proofs.lemmas.Int.{ints}
use Rattle.std.proofs.lemmas.Bool.{cases_lt}
use borrow.Author.Tests.{lt-ltb, le-ltb}
use Rattle.wire.specs.Grammar.{IsBytes}
use Rattle.script.specs.Num.{operand, num_value, magnitude, is_negative, with_sign}

magnitude_bound : (bytes : List ℕ) → IsBytes bytes → length bytes ≤ 4 → magnitude bytes < 2 ^ 31
magnitude_bound [] fits h = omega arith
magnitude_bound (a ∷ []) fits h = omega arith
magnitude_bound (a ∷ b ∷ []) fits h = omega (arith, fits 0)
magnitude_bound (a ∷ b ∷ c ∷ []) fits h = omega (arith, fits 0, fits 1)
magnitude_bound (a ∷ b ∷ c ∷ d ∷ []) fits h = omega (arith, fits 0, fits 1, fits 2)
magnitude_bound (a ∷ b ∷ c ∷ d ∷ e ∷ more) fits h = absurd (omega arith)

signed_above : (negative : Bool) (n : ℕ) → n < 2 ^ 31 → negsuc (2 ^ 31) <ℤ with_sign negative n
signed_above true zero h = omega (arith, ints)
signed_above true (suc n) h = omega (arith, ints)
signed_above false n h = omega (arith, ints)

signed_below : (negative : Bool) (n : ℕ) → n < 2 ^ 31 → with_sign negative n <ℤ pos (2 ^ 31)
signed_below true zero h = omega (arith, ints)
signed_below true (suc n) h = omega (arith, ints)
signed_below false n h = omega (arith, ints)

pub operand_bound : (bytes : List ℕ) (z : ℤ) → IsBytes bytes → operand 4 bytes ≡ Some z → (negsuc (2 ^ 31) <ℤ z) × (z <ℤ pos (2 ^ 31))
unfolding operand num_value
operand_bound bytes z fits e =
    ⊎_elim (λ long. let g = rw (lt-ltb 4 (length bytes) long) at e in cc)
    (λ small. let g = rw (le-ltb 4 (length bytes) small) at e in
    let is : with_sign (is_negative bytes) (magnitude bytes) ≡ z = cc in
    let below = magnitude_bound bytes fits small in (
      subst (λ (w : ℤ). negsuc (2 ^ 31) <ℤ w) is (signed_above (is_negative bytes) (magnitude bytes) below),
      subst (λ (w : ℤ). w <ℤ pos (2 ^ 31)) is (signed_below (is_negative bytes) (magnitude bytes) below),
    ))
    (cases_lt 4 (length bytes))
