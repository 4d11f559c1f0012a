-- Digits to the base 256.
use Rattle.std.proofs.Common.{◌≡◌, ℕ, suc, ◌+◌, ◌-◌, ◌*◌, ◌/◌, ◌%◌, ◌^◌, ◌<◌, ◌≤◌, List, [], ◌∷◌, ◌++◌, length, set, take, get_or, refl, ap, sym, ◌∙◌, arith, add-one, ⊎_elim}
use Rattle.std.proofs.Math.Nat.{pow-suc, pow-succ', div-div-eq-div-mul, mul-div_cancel, mul-mod_left, add-mul-div_right, div-eq_of_lt, pow-le-pow_right, mul_assoc, zero-mul}
use Rattle.std.proofs.Math.Arith.{mod-mul}
use Rattle.std.proofs.Math.Seq.{take-suc, take-suc-set}
use Rattle.std.proofs.lemmas.Nat.{pow-add, mul-le, div_below, le-div}
use Rattle.std.proofs.lemmas.List.{length-take-le}
use Rattle.std.proofs.lemmas.Bool.{cases_lt}
use Rattle.ffi.specs.Bits.{IsSize, front, number, scaled}

pub pow_above : (k : ℕ) → 0 < 256 ^ k
pow_above k = pow-le-pow_right {n = 256} (omega arith) {i = 0} {j = k} (omega arith)

pub pow_le : (j k : ℕ) → j ≤ k → 256 ^ j ≤ 256 ^ k
pow_le j k h = pow-le-pow_right {n = 256} (omega arith) h

-- ---- lists

pub number_push : (xs : List ℕ) (b : ℕ) → number (xs ++ (b ∷ [])) ≡ number xs + b * 256 ^ length xs
number_push [] b = omega arith
number_push (x ∷ xs) b =
    omega (arith, number_push xs b, ap (λ (p : ℕ). b * p) (pow-suc 256 (length xs)), mul_assoc b (256 ^ length xs) 256)

pub number_take : (xs : List ℕ) (i : ℕ) → i < length xs → number (take (i + 1) xs) ≡ number (take i xs) + get_or xs i 0 * 256 ^ i
number_take xs i h =
    rw (add-one i) (ap number (take-suc xs i 0 h) ∙ number_push (take i xs) (get_or xs i 0)
    ∙ ap (λ (n : ℕ). number (take i xs) + get_or xs i 0 * 256 ^ n) (length-take-le i xs (omega arith)))

-- ---- read

-- one digit more
pub one_more : (n i : ℕ) → n % 256 ^ (i + 1) ≡ n % 256 ^ i + (n / 256 ^ i % 256) * 256 ^ i
one_more n i =
    let e : n % (256 * 256 ^ i) ≡ n % 256 ^ i + (n / 256 ^ i % 256) * 256 ^ i =
    omega (arith, mod-mul n {m = 256} {c = 256 ^ i} (omega arith) (pow_above i)) in
    rw (add-one i) (ap (λ (p : ℕ). n % p) (pow-succ' 256 i) ∙ e)

pub filled : (bytes : List ℕ) (n i d : ℕ) → i < length bytes → number (take i bytes) ≡ n % 256 ^ i → d ≡ n / 256 ^ i % 256
    → number (take (i + 1) (set bytes i d)) ≡ n % 256 ^ (i + 1)
filled bytes n i d h e f =
    let p : number (take (suc i) (set bytes i d)) ≡ number (take i bytes) + d * 256 ^ i =
    ap number (take-suc-set bytes i d h) ∙ number_push (take i bytes) d
    ∙ ap (λ (k : ℕ). number (take i bytes) + d * 256 ^ k) (length-take-le i bytes (omega arith)) in
    ap (λ (k : ℕ). number (take k (set bytes i d))) (add-one i) ∙ p ∙ rw (e, f) (sym (one_more n i))

-- a digit of a word that stands where it is, and the zeros behind it
pub digit_within : (size word place k : ℕ) → size + k ≡ place + 3 → scaled size word / 256 ^ place ≡ word / 256 ^ k
unfolding scaled
digit_within size word place k e =
    let p : 16777216 * 256 ^ place ≡ 256 ^ size * 256 ^ k =
    sym (pow-add 256 3 place) ∙ ap (λ (n : ℕ). 256 ^ n) (omega (arith, e)) ∙ pow-add 256 size k in
    div-div-eq-div-mul (word * 256 ^ size) 16777216 (256 ^ place) ∙ ap (λ d. word * 256 ^ size / d) p
    ∙ sym (div-div-eq-div-mul (word * 256 ^ size) (256 ^ size) (256 ^ k))
    ∙ ap (λ q. q / 256 ^ k) (mul-div_cancel word (pow_above size))

digit_behind_by : (size word place j : ℕ) → size ≡ suc j + (3 + place) → scaled size word / 256 ^ place % 256 ≡ 0
unfolding scaled
digit_behind_by size word place j e =
    let p : 256 ^ size ≡ 256 ^ suc j * (16777216 * 256 ^ place) =
    ap (λ (n : ℕ). 256 ^ n) e ∙ pow-add 256 (suc j) (3 + place) ∙ ap (λ q. 256 ^ suc j * q) (pow-add 256 3 place) in
    let q : word * 256 ^ size ≡ (word * 256 ^ suc j) * (16777216 * 256 ^ place) =
    ap (λ x. word * x) p ∙ sym (mul_assoc word (256 ^ suc j) (16777216 * 256 ^ place)) in
    let r : word * 256 ^ suc j ≡ (word * 256 ^ j) * 256 =
    ap (λ x. word * x) (pow-suc 256 j) ∙ sym (mul_assoc word (256 ^ j) 256) in
    ap (λ x. x % 256) (div-div-eq-div-mul (word * 256 ^ size) 16777216 (256 ^ place)
    ∙ ap (λ x. x / (16777216 * 256 ^ place)) q
    ∙ mul-div_cancel (word * 256 ^ suc j) (omega (arith, pow_above place)) ∙ r)
    ∙ mul-mod_left (word * 256 ^ j) 256

pub digit_behind : (size word place : ℕ) → place + 3 < size → scaled size word / 256 ^ place % 256 ≡ 0
digit_behind size word place h = digit_behind_by size word place (size - (place + 4)) (omega arith)

pub digit_above : (size word place k : ℕ) → size + k ≡ place + 3 → 3 ≤ k → word < 2 ^ 23 → scaled size word / 256 ^ place % 256 ≡ 0
digit_above size word place k e h b =
    rw (digit_within size word place k e, div-eq_of_lt {n = word} {m = 256 ^ k} (omega (arith, pow_le 3 k h))) refl

-- ---- how large it is

pub scaled_small : (size word : ℕ) → size ≤ 32 → word < 2 ^ 23 → scaled size word < 2 ^ 256
unfolding scaled
scaled_small size word h b =
    div_below (word * 256 ^ size) 16777216 (2 ^ 256) (omega arith)
    (omega (arith, mul-le word (256 ^ size) word (256 ^ 32) (omega arith) (pow_le size 32 h)))

pub scaled_large : (size word : ℕ) → 35 ≤ size → 0 < word → 2 ^ 256 ≤ scaled size word
unfolding scaled
scaled_large size word h b =
    le-div (2 ^ 256) (word * 256 ^ size) 16777216 (omega arith)
    (omega (arith, mul-le 1 (256 ^ 35) word (256 ^ size) b (pow_le 35 size h)))

pub scaled_some : (size word : ℕ) → 3 ≤ size → 0 < word → 0 < scaled size word
unfolding scaled
scaled_some size word h b =
    le-div 1 (word * 256 ^ size) 16777216 (omega arith)
    (omega (arith, mul-le 1 (256 ^ 3) word (256 ^ size) b (pow_le 3 size h)))

pub scaled_zero : (size word : ℕ) → word ≡ 0 → scaled size word ≡ 0
unfolding scaled
scaled_zero size word e = rw (e, zero-mul (256 ^ size)) refl

pub scaled_at_33 : (word : ℕ) → scaled 33 word ≡ word * 2 ^ 240
unfolding scaled
scaled_at_33 word = omega arith

pub scaled_at_34 : (word : ℕ) → scaled 34 word ≡ word * 2 ^ 248
unfolding scaled
scaled_at_34 word = omega arith

pub scaled_at_0 : (word : ℕ) → word < 2 ^ 23 → scaled 0 word ≡ 0
unfolding scaled
scaled_at_0 word h = omega arith

pub scaled_at_1 : (word : ℕ) → scaled 1 word ≡ word / 2 ^ 16
unfolding scaled
scaled_at_1 word = omega arith

pub scaled_at_2 : (word : ℕ) → scaled 2 word ≡ word / 2 ^ 8
unfolding scaled
scaled_at_2 word = omega arith

-- ---- written

pub front_more : (n i b : ℕ) → front (i + 1) (n + b * 256 ^ i) ≡ (front i n + b * 2 ^ 24) / 256
unfolding front
front_more n i b =
    let p : (n + b * 256 ^ i) * 16777216 ≡ n * 16777216 + (b * 16777216) * 256 ^ i = omega arith in
    rw (add-one i) (ap (λ d. (n + b * 256 ^ i) * 16777216 / d) (pow-suc 256 i)
    ∙ sym (div-div-eq-div-mul ((n + b * 256 ^ i) * 16777216) (256 ^ i) 256)
    ∙ ap (λ x. x / 256 ^ i / 256) p
    ∙ ap (λ x. x / 256) (add-mul-div_right (n * 16777216) (b * 16777216) (pow_above i)))

pub front_below : (n size : ℕ) → n < 256 ^ size → front size n < 2 ^ 24
unfolding front
front_below n size h = div_below (n * 16777216) (256 ^ size) 16777216 (pow_above size) (omega arith)

pub front_none : front 0 0 ≡ 0
unfolding front
front_none = refl

pub size_more : (n i b : ℕ) → n < 256 ^ i → 0 < b → b < 256 → IsSize (n + b * 256 ^ i) (i + 1)
size_more n i b h above below =
    let one : 1 * 256 ^ i ≤ b * 256 ^ i = mul-le 1 (256 ^ i) b (256 ^ i) above (omega arith) in
    record {
      fits = rw (add-one i) (omega (arith, pow-succ' 256 i, mul-le (b + 1) (256 ^ i) 256 (256 ^ i) (omega arith) (omega arith)));
      least = λ k p. ⊎_elim (λ q. omega arith) (λ q. absurd (omega (arith, pow_le k i (omega arith)))) (cases_lt i k);
    }

pub front_within : (n size i : ℕ) → IsSize n size → size ≤ i → front i n < 2 ^ 24
front_within n size i s h = front_below n i (omega (arith, s.fits, pow_le size i h))

pub size_none : IsSize 0 0
size_none = record { fits = omega arith; least = λ k p. omega arith }
