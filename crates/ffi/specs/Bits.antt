-- Targets, and the bits that spell them in a header (Bitcoin Core's `arith_uint256::SetCompact` and `GetCompact`).
use Rattle.std.specs.Prelude.{◌≡◌, ℕ, ◌+◌, ◌*◌, ◌/◌, ◌%◌, ◌^◌, ◌<◌, ◌≤◌, Bool, not, ◌&&◌, ◌==◌, List, [], ◌∷◌, if◌then◌else◌, nat_le, nat_lt}

-- the number of bytes, the lowest first
abbrev pub number : List ℕ → ℕ
number [] = 0
number (byte ∷ bytes) = byte + 256 * number bytes

-- ---- read

-- bits are a size of 8 bits, one bit for the sign, and a word of 23 bits
abbrev pub size_of : ℕ → ℕ
size_of bits = bits / 2 ^ 24

abbrev pub has_sign : ℕ → Bool
has_sign bits = nat_le (2 ^ 23) (bits % 2 ^ 24)

abbrev pub word_of : ℕ → ℕ
word_of bits = bits % 2 ^ 23

-- the number of so many bytes of which the three highest are the word: word * 256 ^ (size - 3), rounded down
unfoldable pub scaled : ℕ → ℕ → ℕ
scaled size word = word * 256 ^ size / 256 ^ 3

-- the number that bits spell, which may have more than 256 bits
abbrev pub spelled : ℕ → ℕ
spelled bits = scaled (size_of bits) (word_of bits)

-- the lowest 256 bits of it
abbrev pub target : ℕ → ℕ
target bits = spelled bits % 2 ^ 256

-- the faults of a target: it has a sign, which 0 has not; it has more than 256 bits
abbrev pub is_negative : ℕ → Bool
is_negative bits = not (spelled bits == 0) && has_sign bits

abbrev pub overflows : ℕ → Bool
overflows bits = nat_le (2 ^ 256) (spelled bits)

-- ---- written

-- the fewest bytes that a number has room in
pub record IsSize (n size : ℕ) : Type 0 where
  pub fits : n < 256 ^ size
  pub least : (k : ℕ) → n < 256 ^ k → size ≤ k

-- the three highest of so many bytes, zeros behind those of a number that has fewer
unfoldable pub front : ℕ → ℕ → ℕ
front size n = n * 256 ^ 3 / 256 ^ size

abbrev pub sign : Bool → ℕ → ℕ
sign negative word = if negative && not (word == 0) then 2 ^ 23 else 0

abbrev pub packed : Bool → ℕ → ℕ → ℕ
packed negative size word = size * 2 ^ 24 + sign negative word + word

-- where the sign's bit is set in the word, the lowest byte of that is left out, and the size is one more
abbrev pub compact : Bool → ℕ → ℕ → ℕ
compact negative size word =
    if nat_lt word (2 ^ 23) then packed negative size word else packed negative (size + 1) (word / 256)

-- the bits of a number
abbrev pub IsCompact : ℕ → Bool → ℕ → Type 0
IsCompact n negative bits = (size : ℕ) × IsSize n size × (bits ≡ compact negative size (front size n))
