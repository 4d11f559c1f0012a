-- How a hasher holds a message as it grows.
use Rattle.std.proofs.Common.{◌≡◌, ℕ, ◌+◌, ◌*◌, ◌/◌, ◌%◌, ◌^◌, ◌<◌, ◌≤◌, List, [], ◌∷◌, ◌++◌, length, take, drop, replicate, refl, sym, ap, ◌∙◌, arith, length-append, length-drop, add-one}
use Rattle.std.proofs.lemmas.List.{drop-append-le, drop_all, drop-drop, drop_at, append_assoc, append-nil, take-append-drop, take_at, length-take-le, take-replicate}
use Rattle.std.proofs.lemmas.Slice.{take-put_mid}
use Rattle.std.specs.List.{fold}
use Rattle.std.specs.Int.{w64, to_le_bytes}
use Rattle.ripemd.specs.Block.{pieces, after_block}
use Rattle.ripemd.specs.Ripemd160.{after_blocks, padded_message, zeros_after}
use Rattle.ripemd.specs.Hasher.{Holds}
use Rattle.ripemd.specs.declared.state.State.{State}
use Rattle.ripemd.specs.declared.hasher.Ripemd160.{Ripemd160}
use Rattle.ripemd.proofs.Blocks.{after_blocks-append, after_blocks_short, after_blocks_one_more}
use borrow.Rule.Slice.PartMut.{put_mid, post_of}

-- the whole blocks of a message, and the bytes after them
whole : List ℕ → List ℕ
whole m = take (length m / 64 * 64) m

tail : List ℕ → List ℕ
tail m = drop (length m / 64 * 64) m

whole-tail : (m : List ℕ) → whole m ++ tail m ≡ m
unfolding whole tail
whole-tail m = take-append-drop (length m / 64 * 64) m

length-whole : (m : List ℕ) → length (whole m) ≡ length m / 64 * 64
unfolding whole
length-whole m = length-take-le (length m / 64 * 64) m (omega arith)

length-tail : (m : List ℕ) → length (tail m) ≡ length m % 64
unfolding tail
length-tail m = omega (arith, length-drop (length m / 64 * 64) m)

after_blocks_whole : (m : List ℕ) → after_blocks m ≡ after_blocks (whole m)
after_blocks_whole m =
    let edge : length (whole m) % 64 ≡ 0 = omega (arith, length-whole m) in
    let short : length (tail m) < 64 = omega (arith, length-tail m) in
    ap (λ (x : List ℕ). after_blocks x) (sym (whole-tail m)) ∙ after_blocks_short (whole m) (tail m) edge short

-- what is added to a message is added to the bytes after its whole blocks
tail-append : (m d : List ℕ) → m ++ d ≡ whole m ++ (tail m ++ d)
tail-append m d = ap (λ (x : List ℕ). x ++ d) (sym (whole-tail m)) ∙ append_assoc (whole m) (tail m) d

-- bytes that leave the buffer short of a block
pub Holds_short : (hasher next : Ripemd160) (m d copied : List ℕ) (held j : ℕ) → Holds hasher m → length hasher.buffer ≡ 64 → held ≡ hasher.length % 64
    → held + length d < 64 → copied ≡ d
    → next ≡ record { state = hasher.state; buffer = put_mid held j hasher.buffer copied; length = (hasher.length + length d) % 2 ^ 64 }
    → Holds next (m ++ d)
unfolding Holds tail
Holds_short hasher next m d copied held j holds size at short same is =
    let count : hasher.length ≡ length m % 2 ^ 64 = holds.2 in
    let same_held : held ≡ length m % 64 = omega arith in
    let edge : length (whole m) % 64 ≡ 0 = omega (arith, length-whole m) in
    let after : length (tail m ++ d) < 64 = omega (arith, length-append (tail m) d, length-tail m) in
    let still : after_blocks (m ++ d) ≡ after_blocks m =
    ap (λ (x : List ℕ). after_blocks x) (tail-append m d) ∙ after_blocks_short (whole m) (tail m ++ d) edge after ∙ sym (after_blocks_whole m) in
    let blocks : length (m ++ d) / 64 ≡ length m / 64 = omega (arith, length-append m d) in
    let left : length (m ++ d) % 64 ≡ held + length d = omega (arith, length-append m d) in
    let placed : take (held + length d) (put_mid held j hasher.buffer copied) ≡ take held hasher.buffer ++ d =
    rw same (take-put_mid held j hasher.buffer d (held + length d) refl (omega arith)) in
    let rest : drop (length m / 64 * 64) (m ++ d) ≡ drop (length m / 64 * 64) m ++ d = drop-append-le (length m / 64 * 64) m d (omega arith) in
    rw is (
      holds.0 ∙ sym still,
      rw (left, blocks, placed, rest, same_held, holds.1) refl,
      omega (arith, length-append m d),
    )

-- bytes that fill the buffer, and then what follows them
pub Holds_full : (hasher next : Ripemd160) (m input first more copied rest : List ℕ) (state : State) (held j k : ℕ) → Holds hasher m
    → length hasher.buffer ≡ 64 → held ≡ hasher.length % 64 → held + j ≡ 64 → length first ≡ j → input ≡ first ++ more → copied ≡ first
    → state ≡ fold after_block (after_block hasher.state (put_mid held j hasher.buffer copied)) (pieces 64 more)
    → rest ≡ drop (length more / 64 * 64) more
    → next ≡ record {
      state = state;
      buffer = rest ++ post_of 0 k (put_mid held j hasher.buffer copied);
      length = (hasher.length + length input) % 2 ^ 64;
    }
    → Holds next (m ++ input)
unfolding Holds tail
Holds_full hasher next m input first more copied rest state held j k holds size at room fits whole_input same absorbs left is =
    let count : hasher.length ≡ length m % 2 ^ 64 = holds.2 in
    let same_held : held ≡ length m % 64 = omega arith in
    let edge : length (whole m) % 64 ≡ 0 = omega (arith, length-whole m) in
    let none : post_of held j hasher.buffer ≡ [] = drop_all j (drop held hasher.buffer) (omega (arith, length-drop held hasher.buffer)) in
    let block : put_mid held j hasher.buffer copied ≡ tail m ++ first = rw (none, append-nil, same, same_held, holds.1) refl in
    let one : length (tail m ++ first) ≡ 64 = omega (arith, length-append (tail m) first, length-tail m) in
    let front : List ℕ = whole m ++ (tail m ++ first) in
    let front_len : length front ≡ length m / 64 * 64 + 64 = omega (arith, length-append (whole m) (tail m ++ first), length-whole m) in
    let joined : m ++ input ≡ front ++ more =
    ap (λ (x : List ℕ). m ++ x) whole_input ∙ sym (append_assoc m first more) ∙ ap (λ (x : List ℕ). x ++ more) (tail-append m first) in
    let state_is : state ≡ after_blocks (front ++ more) =
    absorbs ∙ ap (λ (x : List ℕ). fold after_block (after_block hasher.state x) (pieces 64 more)) block
    ∙ ap (λ (h : State). fold after_block (after_block h (tail m ++ first)) (pieces 64 more)) (holds.0 ∙ after_blocks_whole m)
    ∙ ap (λ (h : State). fold after_block h (pieces 64 more)) (sym (after_blocks_one_more (whole m) (tail m ++ first) edge one))
    ∙ sym (after_blocks-append front more (omega arith)) in
    let blocks : length (front ++ more) / 64 * 64 ≡ length front + length more / 64 * 64 = omega (arith, length-append front more) in
    let count_left : length (front ++ more) % 64 ≡ length rest = omega (arith, length-append front more, ap length left, length-drop (length more / 64 * 64) more) in
    let dropped : drop (length front + length more / 64 * 64) (front ++ more) ≡ rest =
    sym (drop-drop (length more / 64 * 64) (length front) (front ++ more))
    ∙ ap (λ (x : List ℕ). drop (length more / 64 * 64) x) (drop_at front more (length front) refl) ∙ sym left in
    let total : length (m ++ input) ≡ length m + length input = length-append m input in
    rw is (
      rw joined state_is,
      rw (joined, count_left, blocks, dropped) (take_at rest (post_of 0 k (put_mid held j hasher.buffer copied)) (length rest) refl),
      omega arith,
    )

-- the five words once the padding is absorbed
pub Holds_padded : (hasher : Ripemd160) (m padding bits : List ℕ) → Holds hasher ((m ++ padding) ++ bits)
    → padding ≡ 0x80 ∷ replicate (zeros_after (length m)) 0 → bits ≡ to_le_bytes w64 (length m * 8 % 2 ^ 64) → hasher.state ≡ after_blocks (padded_message m)
unfolding Holds
Holds_padded hasher m padding bits holds padding_is bits_is =
    holds.0 ∙ rw (padding_is, bits_is) refl

-- the count of a held message
pub Holds_length : (hasher : Ripemd160) (m : List ℕ) → Holds hasher m → hasher.length ≡ length m % 2 ^ 64
unfolding Holds
Holds_length hasher m holds = holds.2

-- the first bytes of the longest padding
pub take_padding : (n count : ℕ) → n ≤ 63 → n ≡ count → let longest : List ℕ = 0x80 ∷ replicate 63 0 in take (n + 1) longest ≡ 0x80 ∷ replicate count 0
take_padding n count fits same =
    let front : take n (replicate 63 0) ≡ replicate n 0 = take-replicate n 63 (let zero_byte : ℕ = 0 in zero_byte) fits in
    rw (add-one, front, same) refl
