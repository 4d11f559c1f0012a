-- What is reported about a table of valid signatures, which is passed as text.
use Rattle.std.specs.Prelude.{◌≡◌, ℕ, ◌⊎◌, ◌++◌, List, [], ◌∷◌, codes}
use Rattle.hex.specs.Hex.{encode_lower}
use Rattle.signatures.specs.Lines.{IsFirstBad, IsTableOf}
use Rattle.signatures.specs.Triple.{Triples}

-- What its triples say is reported; or a line can't be read, and only that is reported; or memory ran out, and nothing is.
abbrev pub IsByTable : List (List ℕ) → (Triples → Type 0) → ℕ → ℕ → Type 0 → ℕ → Type 0
IsByTable ls told before line kept result =
    ((result ≡ 0) × ((triples : Triples) × IsTableOf ls triples × told triples) × (line ≡ before))
    ⊎ ((result ≡ 3) × IsFirstBad ls line × kept)
    ⊎ ((result ≡ 1) × (line ≡ before) × kept)

-- ---- a line more

-- the hexadecimal of bytes, `-` for none
abbrev pub word_of : List ℕ → List ℕ
word_of [] = codes "-"
word_of (byte ∷ bytes) = encode_lower (byte ∷ bytes)

-- what is appended to a text for one more triple: the end of its last line, and a line
abbrev pub line_of : List ℕ → List ℕ → List ℕ → List ℕ
line_of key signature digest = 10 ∷ word_of key ++ 32 ∷ word_of signature ++ 32 ∷ encode_lower digest
