-- What the definition gives, beside what its authors published.
use Rattle.std.specs.Prelude.{◌≡◌, ℕ, ◌+◌, ◌*◌, ◌%◌, ◌^◌, ◌<◌, List, [], ◌∷◌, ◌++◌, length, replicate, codes, refl}
use Rattle.std.specs.Int.{w64, to_le_bytes}
use Rattle.std.proofs.Common.{arith, length-append}
use Rattle.std.proofs.lemmas.List.{length-replicate}
use Rattle.ripemd.specs.Block.{after_steps, after_block}
use Rattle.ripemd.specs.Ripemd160.{zeros_after, padded_message, ripemd160}

-- the zero bytes are the fewest that take the length to 56 modulo 64
pub zeros_reach : (n : ℕ) → ((n + 1 + zeros_after n) % 64 ≡ 56) × (zeros_after n < 64)
zeros_reach n = (omega arith, omega arith)

-- a padded message is whole blocks
pub padded_in_blocks : (message : List ℕ) → length (padded_message message) % 64 ≡ 0
padded_in_blocks message =
    let zero_bytes : List ℕ = replicate (zeros_after (length message)) 0 in
    let bits : List ℕ = to_le_bytes w64 (length message * 8 % 2 ^ 64) in
    let count : length zero_bytes ≡ zeros_after (length message) = length-replicate _ _ in
    omega (arith, count, length-append message (0x80 ∷ zero_bytes), length-append (message ++ 0x80 ∷ zero_bytes) bits)

-- a digest has 20 bytes
pub length-ripemd160 : (message : List ℕ) → length (ripemd160 message) ≡ 20
unfolding ripemd160
length-ripemd160 message = refl

-- the digest of no byte
pub of_nothing : ripemd160 [] ≡
    0x9c ∷ 0x11 ∷ 0x85 ∷ 0xa5 ∷ 0xc5 ∷ 0xe9 ∷ 0xfc ∷ 0x54 ∷ 0x61 ∷ 0x28
    ∷ 0x08 ∷ 0x97 ∷ 0x7e ∷ 0xe8 ∷ 0xf5 ∷ 0x48 ∷ 0xb2 ∷ 0x25 ∷ 0x8d ∷ 0x31 ∷ []
unfolding after_steps after_block ripemd160
of_nothing = refl

-- the digest of "abc"
pub of_abc : ripemd160 (codes "abc") ≡
    0x8e ∷ 0xb2 ∷ 0x08 ∷ 0xf7 ∷ 0xe0 ∷ 0x5d ∷ 0x98 ∷ 0x7a ∷ 0x9b ∷ 0x04
    ∷ 0x4a ∷ 0x8e ∷ 0x98 ∷ 0xc6 ∷ 0xb0 ∷ 0x87 ∷ 0xf1 ∷ 0x5a ∷ 0x0b ∷ 0xfc ∷ []
unfolding after_steps after_block ripemd160
of_abc = refl

-- 56 bytes, which the padding carries into a second block
pub of_two_blocks : ripemd160 (codes "abcdbcdecdefdefgefghfghighijhijkijkljklmklmnlmnomnopnopq") ≡
    0x12 ∷ 0xa0 ∷ 0x53 ∷ 0x38 ∷ 0x4a ∷ 0x9c ∷ 0x0c ∷ 0x88 ∷ 0xe4 ∷ 0x05
    ∷ 0xa0 ∷ 0x6c ∷ 0x27 ∷ 0xdc ∷ 0xf4 ∷ 0x9a ∷ 0xda ∷ 0x62 ∷ 0xeb ∷ 0x2b ∷ []
unfolding after_steps after_block ripemd160
of_two_blocks = refl
