-- Halving again and again is dividing by a power of two.
use Rattle.std.proofs.Common.{◌≡◌, ℕ, zero, suc, ◌/◌, ◌^◌, to_z, w64, pos, sym, ap, ◌∙◌, arith}
use Rattle.std.proofs.Math.Nat.{div-div-eq-div-mul, pow-succ', div-le_self, div-one}
use Rattle.std.proofs.lemmas.Int.{to_z_pos}
use Rattle.block.specs.Reward.{halve}

pub halved_is : (n x : ℕ) → halve n x ≡ x / 2 ^ n
halved_is zero x = sym (div-one x)
halved_is (suc n) x = halved_is n (x / 2) ∙ div-div-eq-div-mul x 2 (2 ^ n) ∙ ap (λ (d : ℕ). x / d) (sym (pow-succ' 2 n))

pub small_quotient : (d : ℕ) → to_z w64 (5000000000 / d) ≡ pos (5000000000 / d)
small_quotient d = to_z_pos w64 (5000000000 / d) (omega (arith, div-le_self 5000000000 d))
