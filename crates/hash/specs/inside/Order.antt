-- Bytes as numbers, by which ids are compared.
use Rattle.std.specs.Prelude.{ℕ, ◌+◌, ◌*◌, List, [], ◌∷◌, take, drop}

-- the number that bytes spell after another one, the first the greatest
abbrev pub number_after : ℕ → List ℕ → ℕ
number_after n [] = n
number_after n (byte ∷ bytes) = number_after (n * 256 + byte) bytes

-- the number that the eight bytes from a place on spell
abbrev pub word_at : ℕ → List ℕ → ℕ
word_at at bytes = number_after 0 (take 8 (drop at bytes))
