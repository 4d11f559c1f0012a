-- RIPEMD-160 (Dobbertin, Bosselaers and Preneel, 1996; ISO/IEC 10118-3) as a function of the whole
-- message, a list of bytes.
use Rattle.std.specs.Prelude.{ℕ, ◌-◌, ◌*◌, ◌%◌, ◌^◌, List, [], ◌∷◌, ◌++◌, length, replicate}
use Rattle.std.specs.List.{fold, flat_map}
use Rattle.std.specs.Int.{w32, w64, to_le_bytes}
use Rattle.ripemd.specs.Block.{pieces, after_block}
use Rattle.ripemd.specs.declared.state.State.{State}

-- how many zero bytes take n bytes and the byte 0x80 to a length of 56 modulo 64
abbrev pub zeros_after : ℕ → ℕ
zeros_after n = (119 - n % 64) % 64

-- the message, the byte 0x80, zero bytes until the length is 56 modulo 64, and the message's length in
-- bits, modulo 2 ^ 64, as 8 bytes, the lowest first
abbrev pub padded_message : List ℕ → List ℕ
padded_message message =
    message ++ 0x80 ∷ replicate (zeros_after (length message)) 0
    ++ to_le_bytes w64 (length message * 8 % 2 ^ 64)

-- h0 to h4 before the first block
abbrev pub initial_state : State
initial_state = record { a = 0x67452301; b = 0xEFCDAB89; c = 0x98BADCFE; d = 0x10325476; e = 0xC3D2E1F0 }

-- h0 to h4 after the whole blocks of 64 bytes
abbrev pub after_blocks : List ℕ → State
after_blocks bytes = fold after_block initial_state (pieces 64 bytes)

-- h0 to h4, each in 4 bytes, the lowest first
abbrev pub digest_of : State → List ℕ
digest_of h = flat_map (λ word. to_le_bytes w32 word) (h.a ∷ h.b ∷ h.c ∷ h.d ∷ h.e ∷ [])

-- the digest of a message
unfoldable pub ripemd160 : List ℕ → List ℕ
ripemd160 message = digest_of (after_blocks (padded_message message))
