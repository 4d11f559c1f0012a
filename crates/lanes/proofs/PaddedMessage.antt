-- The blocks of messages with their padding.
use Rattle.std.proofs.Common.{◌≡◌, ℕ, suc, ◌+◌, ◌-◌, ◌*◌, ◌/◌, ◌%◌, ◌^◌, ◌<◌, ◌≤◌, ◌⊎◌, inl, inr, Bool, if◌then◌else◌, List, ◌∷◌, ◌++◌, length, take, drop, min, set, replicate, sym, ap, ◌∙◌, append_assoc, arith, w64}
use Rattle.std.proofs.lemmas.List.{length-append, length-drop, length-replicate, take-append-le, drop-append-le, drop-drop, drop-take, take-take, drop-replicate, take-replicate, set_at}
use Rattle.std.proofs.lemmas.Bool.{cases_lt, le-ltb, lt-ltb}
use Rattle.std.proofs.Math.Seq.{take-append-add}
use Rattle.std.proofs.lemmas.Slice.{take-put_mid}
use Rattle.std.specs.Int.{to_be_bytes}
use borrow.Rule.Slice.PartMut.{put_mid}
use Rattle.sha2.proofs.Absorbing256.{hash_after_next}
use Rattle.sha2.specs.Sha256.{compress, final_hash, hash_after, initial_hash_256, padded_message, padding}
use Rattle.lanes.specs.inside.PaddedBlocks.{IsTail, after_blocks, block, block_count, padded_len}

length-zeros : (n : ℕ) → length (replicate {A = ℕ} n 0) ≡ n
length-zeros n = length-replicate {A = ℕ} n 0

length-padding : (n : ℕ) → length (padding n) ≡ (119 - n % 64) % 64 + 9
length-padding n =
    let gap : ℕ = (119 - n % 64) % 64 in
    omega (arith, length-append (replicate {A = ℕ} gap 0) (to_be_bytes w64 (n * 8 % 2 ^ 64)), length-zeros gap)

length-padded : (m : List ℕ) → length (padded_message m) ≡ length m + ((119 - length m % 64) % 64 + 9)
length-padded m = length-append m (padding (length m)) ∙ ap (λ (n : ℕ). length m + n) (length-padding (length m))

pub count-one : (m : List ℕ) → length m % 64 < 56 → block_count m ≡ length m / 64 + 1
count-one m lt = omega (arith, lt, length-padded m)

pub count-two : (m : List ℕ) → 56 ≤ length m % 64 → block_count m ≡ length m / 64 + 2
count-two m ge = omega (arith, ge, length-padded m)

-- a block that the message fills
pub block-inside : (m : List ℕ) (i : ℕ) → i < length m / 64 → take 64 (drop (i * 64) m) ≡ block m i
block-inside m i lt =
    sym (ap (take 64) (drop-append-le (i * 64) m (padding (length m)) (omega (arith, lt)))
    ∙ take-append-le 64 (drop (i * 64) m) (padding (length m)) (omega (arith, lt, length-drop (i * 64) m)))

-- a block of the tail
pub block-in_tail : (m tail : List ℕ) (i : ℕ) → IsTail m tail → length m / 64 ≤ i → i < block_count m → take 64 (drop ((i - length m / 64) * 64) tail) ≡ block m i
block-in_tail m tail i is ge lt =
    let q : ℕ = length m / 64 in
    let j : ℕ = (i - q) * 64 in
    let n : ℕ = (block_count m - q) * 64 in
    let p : List ℕ = padded_message m in
    let at : q * 64 + j ≡ i * 64 = omega (arith, ge) in
    let more : j + (n - j) ≡ n = omega (arith, ge, lt) in
    let here : drop (i * 64) p ≡ take (n - j) (drop j tail) =
    ap (λ (k : ℕ). drop k p) (sym at) ∙ sym (drop-drop j (q * 64) p) ∙ ap (drop j) (sym is)
    ∙ ap (λ (k : ℕ). drop j (take k tail)) (sym more) ∙ drop-take j (n - j) tail in
    sym (ap (take 64) here ∙ take-take 64 (n - j) (drop j tail) (omega (arith, ge, lt)))

-- ---- the tail as it is written: the last bytes, the bit 1, zeros, and the length

with_bit : (rest : List ℕ) (r : ℕ) → length rest ≡ r → r < 64 → set (put_mid 0 r (replicate 128 0) rest) r 0x80 ≡ rest ++ 0x80 ∷ replicate (127 - r) 0
with_bit rest r len lt =
    let gap : drop r (replicate {A = ℕ} 128 0) ≡ replicate (128 - r) 0 = drop-replicate r 128 0 in
    let one : 128 - r ≡ suc (127 - r) = omega (arith, lt) in
    ap (λ (l : List ℕ). set (rest ++ l) r 0x80) (gap ∙ ap (λ (n : ℕ). replicate {A = ℕ} n 0) one)
    ∙ set_at rest 0 (replicate (127 - r) 0) 0x80 r len

pub tail-written : (rest bits : List ℕ) (r e k : ℕ) → length rest ≡ r → r < e → e ≤ 120 → r < 64 → length bits ≡ 8
    → take (e + 8) (put_mid e k (set (put_mid 0 r (replicate 128 0) rest) r 0x80) bits) ≡ rest ++ (0x80 ∷ (replicate (e - r - 1) 0 ++ bits))
tail-written rest bits r e k len below top lt eight =
    let zs : List ℕ = replicate (127 - r) 0 in
    let held = with_bit rest r len lt in
    let b : List ℕ = set (put_mid 0 r (replicate 128 0) rest) r 0x80 in
    let room : e ≤ length b = omega (arith, ap length held, length-append rest (0x80 ∷ zs), length-zeros (127 - r), top, len, lt) in
    let at : e ≡ length rest + suc (e - r - 1) = omega (arith, len, below) in
    let front : take e b ≡ rest ++ 0x80 ∷ replicate (e - r - 1) 0 =
    ap (take e) held ∙ ap (λ (n : ℕ). take n (rest ++ 0x80 ∷ zs)) at ∙ take-append-add rest (0x80 ∷ zs) (suc (e - r - 1))
    ∙ ap (λ (l : List ℕ). rest ++ 0x80 ∷ l) (take-replicate (e - r - 1) (127 - r) 0 (omega (arith, top, lt, below))) in
    take-put_mid e k b bits (e + 8) (omega (arith, eight)) room
    ∙ ap (λ (l : List ℕ). l ++ bits) front ∙ append_assoc rest (0x80 ∷ replicate (e - r - 1) 0) bits

pub len-one : (rest : List ℕ) → length rest < 56 → padded_len rest ≡ 64
len-one rest lt = ap (λ (b : Bool). if b then 64 else 128) (lt-ltb (length rest) 56 lt)

pub len-two : (rest : List ℕ) → 56 ≤ length rest → padded_len rest ≡ 128
len-two rest ge = ap (λ (b : Bool). if b then 64 else 128) (le-ltb (length rest) 56 ge)

-- the length modulo 2 ^ 64 is enough
pub padded-is : (copied rest bits : List ℕ) (r e k len n : ℕ) → copied ≡ rest → length rest ≡ r → r < 64 → bits ≡ to_be_bytes w64 (len * 8 % 2 ^ 64)
    → ((r < 56) × (e ≡ 56)) ⊎ ((56 ≤ r) × (e ≡ 120)) → len ≡ n % 2 ^ 64 → n % 64 ≡ r
    → take (padded_len rest) (put_mid e k (set (put_mid 0 r (replicate 128 0) copied) r 0x80) bits) ≡ rest ++ padding n
padded-is copied rest bits r e k len n same_rest lr lt eb which el last =
    let eight : length bits ≡ 8 = ap length eb in
    let count : padded_len rest ≡ e + 8 = elim which [
      | inl w ↦ len-one rest (omega (arith, w.0, lr)) ∙ omega (arith, w.1)
      | inr w ↦ len-two rest (omega (arith, w.0, lr)) ∙ omega (arith, w.1)
    ] in
    let gap : e - r - 1 ≡ (119 - n % 64) % 64 = elim which [
      | inl w ↦ omega (arith, w.0, w.1, last)
      | inr w ↦ omega (arith, w.0, w.1, last, lt)
    ] in
    let below : r < e = elim which [
      | inl w ↦ omega (arith, w.0, w.1)
      | inr w ↦ omega (arith, w.0, w.1, lt)
    ] in
    let top : e ≤ 120 = elim which [
      | inl w ↦ omega (arith, w.1)
      | inr w ↦ omega (arith, w.1)
    ] in
    let same : len * 8 % 2 ^ 64 ≡ n * 8 % 2 ^ 64 = omega (arith, el) in
    (λ i. take (count i) (put_mid e k (set (put_mid 0 r (replicate 128 0) (same_rest i)) r 0x80) bits))
    ∙ tail-written rest bits r e k lr below top lt eight
    ∙ (λ i. rest ++ (0x80 ∷ (replicate {A = ℕ} (gap i) 0 ++ (eb ∙ ap (to_be_bytes w64) same) i)))

-- the tail of a message
pub tail-is : (m rest tail : List ℕ) → rest ≡ drop (length m / 64 * 64) m → take (padded_len rest) tail ≡ rest ++ padding (length m) → IsTail m tail
tail-is m rest tail is e =
    let q : ℕ = length m / 64 in
    let last : length rest ≡ length m % 64 = omega (arith, ap length is, length-drop (q * 64) m) in
    let count : (block_count m - q) * 64 ≡ padded_len rest = elim (cases_lt (length rest) 56) [
      | inl lt ↦ omega (arith, count-one m (omega (arith, lt, last)), len-one rest lt)
      | inr ge ↦ omega (arith, count-two m (omega (arith, ge, last)), len-two rest ge)
    ] in
    ap (λ (n : ℕ). take n tail) count ∙ e ∙ ap (λ (l : List ℕ). l ++ padding (length m)) is
    ∙ sym (drop-append-le (q * 64) m (padding (length m)) (omega arith))

pub count-few : (m : List ℕ) → block_count m ≤ length m / 64 + 2
count-few m = omega (arith, length-padded m)

-- ---- hash values from block to block

pub none_yet : (m : List ℕ) → after_blocks m 0 ≡ initial_hash_256
unfolding hash_after
none_yet m =
    let none : min 0 (block_count m) ≡ 0 = omega arith in
    ap (hash_after initial_hash_256 (padded_message m)) none

pub one_more : (m : List ℕ) (i : ℕ) → i < block_count m → compress (after_blocks m i) (block m i) ≡ after_blocks m (i + 1)
one_more m i lt =
    let p : List ℕ = padded_message m in
    let now : min i (block_count m) ≡ i = omega (arith, lt) in
    let next : min (i + 1) (block_count m) ≡ i + 1 = omega (arith, lt) in
    ap (λ (n : ℕ). compress (hash_after initial_hash_256 p n) (block m i)) now
    ∙ sym (hash_after_next initial_hash_256 p i) ∙ ap (hash_after initial_hash_256 p) (sym next)

pub no_more : (m : List ℕ) (i : ℕ) → block_count m ≤ i → after_blocks m i ≡ after_blocks m (i + 1)
no_more m i ge =
    let same : min i (block_count m) ≡ min (i + 1) (block_count m) = omega (arith, ge) in
    ap (hash_after initial_hash_256 (padded_message m)) same

pub all_blocks : (m : List ℕ) (i : ℕ) → block_count m ≤ i → after_blocks m i ≡ final_hash initial_hash_256 m
all_blocks m i ge =
    let all : min i (block_count m) ≡ block_count m = omega (arith, ge) in
    ap (hash_after initial_hash_256 (padded_message m)) all
