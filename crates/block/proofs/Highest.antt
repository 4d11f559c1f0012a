-- An id against the target, by its highest three bytes and the others.
use Rattle.std.proofs.Common.{◌≡◌, ◌↔◌, ℕ, suc, ◌+◌, ◌*◌, ◌^◌, ◌≤◌, Bool, true, false, ◌&&◌, List, [], ◌∷◌, ◌++◌, length, refl, sym, ap, subst, ◌∙◌, arith}
use Rattle.std.specs.Prelude.{◌==◌, IsTrue, nat_le}
use Rattle.std.proofs.lemmas.Bool.Decides.{nat_tests}
use native.Mathlib.Decide.{dec_le}
use mathlib.Core.Logic.{dite}
use Rattle.std.specs.List.{list_all}
use Rattle.std.proofs.Math.Nat.{pow-succ', mul_assoc, mul_comm}
use Rattle.std.proofs.lemmas.Bool.{eqb-true, eq-eqb}
use Rattle.byteorder.specs.Endian.{little_from}
use Rattle.byteorder.specs.Numbers.{little_from-cons}

-- the number of a list that is two lists, one after the other
parts : (low high : List ℕ) (m : ℕ) → little_from 0 (length low + m) (low ++ high) ≡ little_from 0 (length low) low + 256 ^ length low * little_from 0 m high
parts [] high m = let k : 0 + m ≡ m = omega arith in rw k (omega arith)
parts (x ∷ low) high m =
    let k : suc (length low) + m ≡ suc (length low + m) = omega arith in
    let again = mul_assoc 256 (256 ^ length low) (little_from 0 m high) in
    rw (k, little_from-cons 0 (length low + m) x (low ++ high), little_from-cons 0 (length low) x low, parts low high m, pow-succ' 256 (length low)) (omega (arith, again))

pub both_true : (a b : Bool) → (a && b) ≡ true → (a ≡ true) × (b ≡ true)
both_true true b h = (refl, h)
both_true false b h = absurd cc

zeros : (xs : List ℕ) → (list_all (λ b. b == 0) xs ≡ true) ↔ (little_from 0 (length xs) xs ≡ 0)
zeros [] = (λ h. refl, λ h. refl)
zeros (x ∷ xs) =
    let skip = little_from-cons 0 (length xs) x xs in (
      λ h.
          let two = both_true (x == 0) (list_all (λ b. b == 0) xs) h in
          omega (arith, skip, eqb-true x 0 two.0, (zeros xs).0 two.1),
      λ h.
          let first : x ≡ 0 = omega (arith, h) in
          let others : little_from 0 (length xs) xs ≡ 0 = omega (arith, skip, h) in
          rw (eq-eqb x 0 first, (zeros xs).1 others) refl,
    )

-- where the top digit is the limit's, the rest has to be zero
at_limit : (p low top : ℕ) → (low ≡ 0) ↔ (low + p * top ≤ top * p)
at_limit p low top = (λ e. omega (arith, e, mul_comm p top), λ h. omega (arith, h, mul_comm p top))

split : (n m : ℕ) (bytes low high : List ℕ) → bytes ≡ low ++ high → length low ≡ n → little_from 0 (n + m) bytes ≡ little_from 0 (length low) low + 256 ^ n * little_from 0 m high
split n m bytes low high e len =
    ap (λ (k : ℕ). little_from 0 (k + m) bytes) (sym len) ∙ ap (λ (xs : List ℕ). little_from 0 (length low + m) xs) e
    ∙ parts low high m ∙ ap (λ (k : ℕ). little_from 0 (length low) low + 256 ^ k * little_from 0 m high) len

pub zero_below : (bytes low high : List ℕ) (top : ℕ) → bytes ≡ low ++ high → length low ≡ 29 → top ≡ little_from 0 3 high → top ≡ 0x7fffff
    → (list_all (λ b. b == 0) low ≡ true) ↔ (little_from 0 32 bytes ≤ 0x7fffff * 256 ^ 29)
zero_below bytes low high top e len is limit =
    let rest : ℕ = little_from 0 (length low) low in
    let whole : little_from 0 32 bytes ≡ rest + 256 ^ 29 * 0x7fffff = split 29 3 bytes low high e len ∙ ap (λ (t : ℕ). rest + 256 ^ 29 * t) (sym is ∙ limit) in
    let zero = zeros low in
    let least = at_limit (256 ^ 29) rest 0x7fffff in
    let P : ℕ → Type 0 = λ n. n ≤ 0x7fffff * 256 ^ 29 in
    (λ h. subst P (sym whole) (least.0 (zero.0 h)), λ h. zero.1 (least.1 (subst P whole h)))

-- what is true exactly where an order holds is its test
pub as_test : (b : Bool) (n m : ℕ) → (IsTrue b ↔ n ≤ m) → b ≡ nat_le n m
as_test true n m h = let le : n ≤ m = h.0 refl in grind (arith, nat_tests)
as_test false n m h =
    dite (dec_le n m)
    (λ (le : n ≤ m). let both : false ≡ true = h.1 le in absurd cc)
    (λ (not : ¬ (n ≤ m)). grind (arith, nat_tests))
