-- The number of 32 bytes by its halves, and one step of a long division.
use Rattle.std.proofs.Common.{◌≡◌, ℕ, zero, suc, ◌+◌, ◌*◌, ◌/◌, ◌%◌, ◌^◌, ◌<◌, ◌≤◌, List, [], ◌∷◌, ◌++◌, length, take, drop, slice_index, refl, ap, sym, ◌∙◌, arith, add-one}
use Rattle.std.specs.Int.{w128, byte_at, byte_worth, sum_through, from_le_bytes, to_le_bytes, bytes_low_first}
use Rattle.std.proofs.Math.Nat.{add-mul, div-div-eq-div-mul, div-one, mul_assoc, pow-suc, pow-le-pow_right}
use Rattle.std.proofs.Math.Arith.{mod-mul}
use Rattle.std.proofs.Math.Seq.{take-length}
use Rattle.std.proofs.lemmas.Nat.{mul-le, div-mul-add}
use Rattle.std.proofs.lemmas.List.{length-drop, length-take-le, take-append-drop}
use Rattle.ffi.specs.Bits.{number}
use Rattle.ffi.proofs.Digits.{number_take, pow_above}

pub number_join : (xs ys : List ℕ) → number (xs ++ ys) ≡ number xs + number ys * 256 ^ length xs
number_join [] ys = omega arith
number_join (x ∷ xs) ys =
    omega (arith, number_join xs ys, ap (λ (p : ℕ). number ys * p) (pow-suc 256 (length xs)), mul_assoc (number ys) (256 ^ length xs) 256)

pub join_is : (xs ys : List ℕ) (a b : ℕ) → length xs ≡ 16 → number xs ≡ a → number ys ≡ b → number (xs ++ ys) ≡ b * 2 ^ 128 + a
join_is xs ys a b e p q = number_join xs ys ∙ rw (e, p, q) (omega arith)

-- ---- read

summed : (xs : List ℕ) (k : ℕ) → k < length xs → sum_through (λ i. byte_worth i (slice_index xs i)) k ≡ number (take (k + 1) xs)
summed xs zero h = omega (arith, number_take xs 0 h)
summed xs (suc k) h = omega (arith, summed xs k (omega arith), number_take xs (suc k) h, ap (λ (n : ℕ). number (take n xs)) (add-one k))

pub read_half : (xs : List ℕ) → length xs ≡ 16 → from_le_bytes w128 xs ≡ number xs
read_half xs e = summed xs 15 (omega arith) ∙ ap (λ (n : ℕ). number (take n xs)) (sym e) ∙ ap number (take-length xs)

pub read_halves : (bytes low high : List ℕ) → length bytes ≡ 32 → low ≡ take 16 bytes → high ≡ take 16 (drop 16 bytes)
    → number high * 2 ^ 128 + number low ≡ number bytes
read_halves bytes low high e p q =
    let n : length (drop 16 bytes) ≡ 16 = omega (arith, length-drop 16 bytes) in
    let r : take 16 (drop 16 bytes) ≡ drop 16 bytes = ap (λ (k : ℕ). take k (drop 16 bytes)) (sym n) ∙ take-length (drop 16 bytes) in
    rw (p, q, r) (sym (join_is (take 16 bytes) (drop 16 bytes) (number (take 16 bytes)) (number (drop 16 bytes))
    (length-take-le 16 bytes (omega arith)) refl refl)) ∙ ap number (take-append-drop 16 bytes)

-- ---- written

byte_at_is : (i n : ℕ) → byte_at i n ≡ n / 256 ^ i % 256
byte_at_is zero n = rw (div-one n) refl
byte_at_is (suc i) n = refl

written_from : (i k n : ℕ) → number (bytes_low_first i k n) ≡ n / 256 ^ i % 256 ^ k
written_from i zero n = omega arith
written_from i (suc k) n =
    let m = n / 256 ^ i in
    let q : m / 256 ≡ n / 256 ^ suc i = div-div-eq-div-mul n (256 ^ i) 256 ∙ ap (λ (d : ℕ). n / d) (sym (pow-suc 256 i)) in
    let s : m % 256 ^ suc k ≡ (m / 256 % 256 ^ k) * 256 + m % 256 =
    ap (λ (d : ℕ). m % d) (pow-suc 256 k) ∙ mod-mul m {m = 256 ^ k} {c = 256} (pow_above k) (omega arith) in
    let r : (m / 256 % 256 ^ k) ≡ n / 256 ^ suc i % 256 ^ k = ap (λ (d : ℕ). d % 256 ^ k) q in
    omega (arith, byte_at_is i n, written_from (suc i) k n, s, r)

pub written_half : (n : ℕ) → n < 2 ^ 128 → number (to_le_bytes w128 n) ≡ n
written_half n h = omega (arith, written_from 0 16 n, div-one n)

-- ---- divided

-- the sum that a long division keeps, with a bit more of the quotient
pub sum_odd : (q t : ℕ) → (2 * q + 1) * (t + 1) ≡ 2 * (q * (t + 1)) + (t + 1)
sum_odd q t = add-mul (2 * q) 1 (t + 1) ∙ omega (arith, mul_assoc 2 q (t + 1))

pub sum_even : (q t : ℕ) → (2 * q) * (t + 1) ≡ 2 * (q * (t + 1))
sum_even q t = mul_assoc 2 q (t + 1)

pub quotient_room : (q r t i : ℕ) → 0 < t → i < 256 → q * (t + 1) + r ≡ 2 ^ i → 2 * q + 1 < 2 ^ 256
quotient_room q r t i h k e =
    omega (arith, mul-le q 2 q (t + 1) (omega arith) (omega arith), pow-le-pow_right {n = 2} (omega arith) {i = i} {j = 255} (omega arith), e)

pub quotient_is : (q r t : ℕ) → r ≤ t → q * (t + 1) + r ≡ 2 ^ 256 → q ≡ 2 ^ 256 / (t + 1)
quotient_is q r t h e = sym (ap (λ (n : ℕ). n / (t + 1)) (sym e) ∙ div-mul-add q (t + 1) r (omega arith))
