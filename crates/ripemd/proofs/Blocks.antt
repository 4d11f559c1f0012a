-- How the five words follow a message as it grows.
use Rattle.std.proofs.Common.{◌≡◌, ℕ, zero, suc, ◌+◌, ◌*◌, ◌/◌, ◌%◌, ◌<◌, ◌≤◌, List, [], ◌∷◌, ◌++◌, length, drop, refl, ◌∙◌, arith, length-append, length-drop, zero-add}
use Rattle.std.proofs.lemmas.List.{take-append-le, drop-append-le, take_all}
use Rattle.std.proofs.lemmas.List.Sums.{fold-append}
use Rattle.std.specs.List.{fold}
use Rattle.std.specs.Simd.{first_chunks}
use Rattle.ripemd.specs.Block.{pieces, after_block}
use Rattle.ripemd.specs.Ripemd160.{after_blocks, initial_state}

-- the pieces of a list that ends at a piece's edge, and those of what follows it
first_chunks-append : (n j k : ℕ) (xs ys : List ℕ) → length xs ≡ j * n → first_chunks n (j + k) (xs ++ ys) ≡ first_chunks n j xs ++ first_chunks n k ys
first_chunks-append n zero k [] ys e = rw (zero-add k) refl
first_chunks-append n zero k (x ∷ xs) ys e = absurd (omega arith)
first_chunks-append n (suc j) k xs ys e =
    let fits : n ≤ length xs = omega arith in
    let left : length (drop n xs) ≡ j * n = omega (arith, length-drop n xs) in
    let more : suc j + k ≡ suc (j + k) = omega arith in
    rw (more, take-append-le n xs ys fits, drop-append-le n xs ys fits, first_chunks-append n j k (drop n xs) ys left) refl

-- whole blocks, and then what follows them
pub after_blocks-append : (xs ys : List ℕ) → length xs % 64 ≡ 0 → after_blocks (xs ++ ys) ≡ fold after_block (after_blocks xs) (pieces 64 ys)
after_blocks-append xs ys edge =
    let counts : length (xs ++ ys) / 64 ≡ length xs / 64 + length ys / 64 = omega (arith, length-append xs ys) in
    let parts = first_chunks-append 64 (length xs / 64) (length ys / 64) xs ys (omega arith) in
    rw (counts, parts) (fold-append after_block initial_state (pieces 64 xs) (pieces 64 ys))

-- whole blocks, and fewer bytes than a block
pub after_blocks_short : (xs ys : List ℕ) → length xs % 64 ≡ 0 → length ys < 64 → after_blocks (xs ++ ys) ≡ after_blocks xs
after_blocks_short xs ys edge short =
    let none : length ys / 64 ≡ 0 = omega arith in
    after_blocks-append xs ys edge ∙ rw none refl

-- whole blocks, and one more
pub after_blocks_one_more : (xs ys : List ℕ) → length xs % 64 ≡ 0 → length ys ≡ 64 → after_blocks (xs ++ ys) ≡ after_block (after_blocks xs) ys
after_blocks_one_more xs ys edge whole =
    let one : length ys / 64 ≡ 1 = omega arith in
    after_blocks-append xs ys edge ∙ rw (one, take_all 64 ys (omega arith)) refl
