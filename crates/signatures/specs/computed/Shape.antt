-- The strict encoding of signatures as a test: the parts are read by the lengths that stand there, and spelled again.
use Rattle.std.specs.Prelude.{ℕ, ◌==◌, List, [], ◌∷◌, length, take, drop, slice_index, Bool, false, not, ◌&&◌, ◌||◌, nat_lt, nat_le}
use Rattle.std.specs.Str.{bytes_eq}
use Rattle.signatures.specs.Shape.{signature}

abbrev pub is_integer : List ℕ → Bool
is_integer [] = false
is_integer (byte ∷ []) = nat_lt byte 0x80
is_integer (byte ∷ next ∷ rest) = nat_lt byte 0x80 && (not (byte == 0) || nat_le 0x80 next)

-- r, after `30`, a length, `02` and its length
abbrev pub r_in : List ℕ → List ℕ
r_in bytes = take (slice_index bytes 3) (drop 4 bytes)

abbrev pub after_r : List ℕ → List ℕ
after_r bytes = drop (slice_index bytes 3) (drop 4 bytes)

-- s, after `02` and its length
abbrev pub s_in : List ℕ → List ℕ
s_in bytes = take (slice_index (after_r bytes) 1) (drop 2 (after_r bytes))

abbrev pub type_in : List ℕ → ℕ
type_in bytes = slice_index (drop (slice_index (after_r bytes) 1) (drop 2 (after_r bytes))) 0

abbrev pub is_signature : List ℕ → Bool
is_signature bytes =
    is_integer (r_in bytes) && is_integer (s_in bytes)
    && bytes_eq bytes (signature (r_in bytes) (s_in bytes) (type_in bytes)) && nat_le (length bytes) 73

unfoldable pub is_strict : List ℕ → Bool
is_strict bytes = (length bytes == 0) || is_signature bytes
