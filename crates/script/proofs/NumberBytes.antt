use Rattle.std.proofs.Common.{◌≡◌, ℕ, zero, suc, ◌+◌, ◌/◌, ◌%◌, ◌<◌, ◌≤◌, ◌^◌, List, [], ◌∷◌, ◌++◌, refl, sym, ap, ◌∙◌, ◌⊎◌, inl, inr, ◌*◌, Bool, false, true, length, ℤ, pos, negsuc, ⊎_elim, append_assoc, subst, ◌-◌, take, drop, arith}
use Rattle.std.specs.Int.RustNames.{unsigned_abs}
use Rattle.std.proofs.lemmas.Bool.{cases_lt}
use Rattle.std.proofs.Math.Seq.{take-length}
use Rattle.std.proofs.Math.Nat.{pow-suc, one-le-pow}
use borrow.Author.Tests.{lt-ltb, le-ltb, lt-leb, le-leb}
use Rattle.wire.specs.Grammar.{IsBytes}
use Rattle.script.specs.Num.{shortest_bytes_with, shortest_bytes, magnitude, is_negative, with_sign, num_value}

-- ---- spelling
-- enough bytes are enough
spelled_fuel : (f g sign n : ℕ) → n < 128 * 256 ^ f → n < 128 * 256 ^ g → shortest_bytes_with (suc f) sign n ≡ shortest_bytes_with (suc g) sign n
unfolding shortest_bytes_with
spelled_fuel zero g sign n p q = rw (lt-ltb n 128 (omega arith)) refl
spelled_fuel (suc f) zero sign n p q = rw (lt-ltb n 128 (omega arith)) refl
spelled_fuel (suc f) (suc g) sign n p q =
    let first = pow-suc 256 f in
    let second = pow-suc 256 g in
    ⊎_elim (λ below. rw (lt-ltb n 128 below) refl)
    (λ past. rw (le-ltb n 128 past) (ap (λ others. n % 256 ∷ others) (spelled_fuel f g sign (n / 256) (omega arith) (omega arith)))) (cases_lt n 128)

spelled_past : (f sign n : ℕ) → 128 ≤ n → shortest_bytes_with (suc f) sign n ≡ n % 256 ∷ shortest_bytes_with f sign (n / 256)
unfolding shortest_bytes_with
spelled_past f sign n past = rw (le-ltb n 128 past) refl

spelled_below : (f sign n : ℕ) → n < 128 → shortest_bytes_with (suc f) sign n ≡ (n + sign) ∷ []
unfolding shortest_bytes_with
spelled_below f sign n below = rw (lt-ltb n 128 below) refl

-- one more byte
pub spelled_more : (old : List ℕ) (sign n : ℕ) → 128 ≤ n → n < 2 ^ 64 → (old ++ n % 256 ∷ []) ++ shortest_bytes_with 9 sign (n / 256) ≡ old ++ shortest_bytes_with 9 sign n
spelled_more old sign n past fits =
    rw append_assoc (ap (λ others. old ++ others) (sym (spelled_past 8 sign n past ∙ ap (λ others. n % 256 ∷ others) (spelled_fuel 7 8 sign (n / 256) (omega arith) (omega arith)))))

-- the last byte
pub spelled_last : (old : List ℕ) (sign n : ℕ) → n < 128 → old ++ (n + sign) ∷ [] ≡ old ++ shortest_bytes_with 9 sign n
spelled_last old sign n below = ap (λ others. old ++ others) (sym (spelled_below 8 sign n below))

-- ---- reading
mag-cons : (b : ℕ) (more : List ℕ) → 0 < length more → magnitude (b ∷ more) ≡ b + 256 * magnitude more
mag-cons b [] h = absurd (omega arith)
mag-cons b (c ∷ more) h = refl

neg-cons : (b : ℕ) (more : List ℕ) → 0 < length more → is_negative (b ∷ more) ≡ is_negative more
neg-cons b [] h = absurd (omega arith)
neg-cons b (c ∷ more) h = refl

some-byte : (f sign n : ℕ) → 0 < length (shortest_bytes_with (suc f) sign n)
some-byte f sign n =
    ⊎_elim (λ below. rw (spelled_below f sign n below) (omega arith)) (λ past. rw (spelled_past f sign n past) (omega arith)) (cases_lt n 128)

-- the shortest spelling has the number's magnitude, and its sign
magnitude-spelled : (f sign n : ℕ) → (sign ≡ 0) ⊎ (sign ≡ 128) → n < 128 * 256 ^ f → magnitude (shortest_bytes_with (suc f) sign n) ≡ n
magnitude-spelled zero sign n s h = rw (spelled_below 0 sign n (omega arith)) (⊎_elim (λ z. omega arith) (λ z. omega arith) s)
magnitude-spelled (suc f) sign n s h =
    let power = pow-suc 256 f in
    ⊎_elim (λ below. rw (spelled_below (suc f) sign n below) (⊎_elim (λ z. omega arith) (λ z. omega arith) s))
    (λ past. rw (spelled_past (suc f) sign n past) (mag-cons (n % 256) (shortest_bytes_with (suc f) sign (n / 256)) (some-byte f sign (n / 256))
    ∙ ap (λ m. n % 256 + 256 * m) (magnitude-spelled f sign (n / 256) s (omega arith)) ∙ omega arith)) (cases_lt n 128)

negative-spelled : (f n : ℕ) → n < 128 * 256 ^ f → (is_negative (shortest_bytes_with (suc f) 0 n) ≡ false) × (is_negative (shortest_bytes_with (suc f) 128 n) ≡ true)
negative-spelled zero n h =
    rw (spelled_below 0 0 n (omega arith), spelled_below 0 128 n (omega arith)) (lt-leb 128 (n + 0) (omega arith), le-leb 128 (n + 128) (omega arith))
negative-spelled (suc f) n h =
    let power = pow-suc 256 f in
    ⊎_elim (λ below. rw (spelled_below (suc f) 0 n below, spelled_below (suc f) 128 n below) (lt-leb 128 (n + 0) (omega arith), le-leb 128 (n + 128) (omega arith)))
    (λ past. let r = negative-spelled f (n / 256) (omega arith) in
    rw (spelled_past (suc f) 0 n past, spelled_past (suc f) 128 n past) (
      neg-cons (n % 256) (shortest_bytes_with (suc f) 0 (n / 256)) (some-byte f 0 (n / 256)) ∙ r.0,
      neg-cons (n % 256) (shortest_bytes_with (suc f) 128 (n / 256)) (some-byte f 128 (n / 256)) ∙ r.1,
    )) (cases_lt n 128)

-- reading the shortest spelling gives the number
pub num_value-spelled : (z : ℤ) → unsigned_abs z < 2 ^ 64 → num_value (shortest_bytes z) ≡ z
unfolding num_value shortest_bytes
num_value-spelled (pos zero) h = refl
num_value-spelled (pos (suc n)) h = rw ((negative-spelled 8 (suc n) (omega arith)).0, magnitude-spelled 8 0 (suc n) (inl refl) (omega arith)) refl
num_value-spelled (negsuc n) h = rw ((negative-spelled 8 (suc n) (omega arith)).1, magnitude-spelled 8 128 (suc n) (inr refl) (omega arith)) refl

-- ---- nothing shorter is read so
past_low : (b m : ℕ) → b < 256 → (b + 256 * m) / 256 ≡ m
past_low b m low = omega arith

spelled-short : (f sign : ℕ) (other : List ℕ) → IsBytes other → 0 < length other → length (shortest_bytes_with f sign (magnitude other)) ≤ length other
unfolding shortest_bytes_with
spelled-short zero sign other fits some = omega arith
spelled-short (suc f) sign [] fits some = absurd (omega arith)
spelled-short (suc f) sign (b ∷ []) fits some = rw (lt-ltb (b % 128) 128 (omega arith)) (omega arith)
spelled-short (suc f) sign (b ∷ c ∷ more) fits some =
    let m = magnitude (c ∷ more) in
    let low : b < 256 = fits 0 in
    let shorter : length (shortest_bytes_with f sign m) ≤ length (c ∷ more) = spelled-short f sign (c ∷ more) (λ i. fits (suc i)) (omega arith) in
    ⊎_elim (λ below. rw (lt-ltb (b + 256 * m) 128 below) (omega arith))
    (λ past. let high = past_low b m low in
    rw (le-ltb (b + 256 * m) 128 past, high) (omega arith)) (cases_lt (b + 256 * m) 128)

abs_signed : (sign : Bool) (n : ℕ) → unsigned_abs (with_sign sign n) ≡ n
abs_signed true zero = refl
abs_signed true (suc n) = refl
abs_signed false n = refl

some_bytes : (other : List ℕ) (n : ℕ) → magnitude other ≡ suc n → 0 < length other
some_bytes [] n e = absurd (omega arith)
some_bytes (b ∷ more) n e = omega arith

short-by : (sign n : ℕ) (other : List ℕ) → IsBytes other → magnitude other ≡ suc n → length (shortest_bytes_with 9 sign (suc n)) ≤ length other
short-by sign n other fits e =
    let P : ℕ → Type 0 = λ m. length (shortest_bytes_with 9 sign m) ≤ length other in
    subst P e (spelled-short 9 sign other fits (some_bytes other n e))

pub spelled-shortest : (z : ℤ) (other : List ℕ) → IsBytes other → num_value other ≡ z → length (shortest_bytes z) ≤ length other
unfolding num_value shortest_bytes
spelled-shortest (pos zero) other fits e = omega arith
spelled-shortest (pos (suc n)) other fits e = short-by 0 n other fits (sym (abs_signed (is_negative other) (magnitude other)) ∙ ap unsigned_abs e)
spelled-shortest (negsuc n) other fits e = short-by 128 n other fits (sym (abs_signed (is_negative other) (magnitude other)) ∙ ap unsigned_abs e)

-- ---- few bytes have a small number
magnitude_below : (n : ℕ) (bytes : List ℕ) → IsBytes bytes → length bytes ≤ suc n → magnitude bytes < 128 * 256 ^ n
magnitude_below n [] fits h = let some : 1 ≤ 256 ^ n = one-le-pow n 256 (omega arith) in omega arith
magnitude_below n (b ∷ []) fits h = let some : 1 ≤ 256 ^ n = one-le-pow n 256 (omega arith) in omega arith
magnitude_below zero (b ∷ c ∷ more) fits h = absurd (omega arith)
magnitude_below (suc n) (b ∷ c ∷ more) fits h =
    let low : b < 256 = fits 0 in
    let below = magnitude_below n (c ∷ more) (λ i. fits (suc i)) (omega arith) in
    omega (arith, pow-suc 256 n)

-- of what follows the first of at most eight bytes
pub others_below : (bytes : List ℕ) → IsBytes bytes → length bytes ≤ 8 → magnitude (take (length bytes - 1) (drop 1 bytes)) < 2 ^ 55
others_below [] fits h = omega arith
others_below (b ∷ more) fits h =
    let one_less : length (b ∷ more) - 1 ≡ length more = omega arith in
    rw (one_less, take-length more) (magnitude_below 6 more (λ i. fits (suc i)) (omega arith))
