-- What is reported about an id's text.
use Rattle.std.specs.Prelude.{◌≡◌, ℕ, ◌⊎◌, List, length, reverse, Ok}
use Rattle.std.specs.List.{AllPass}
use Rattle.hex.specs.Hex.{decode_of, is_hex_digit}
use Rattle.ffi.specs.declared.answers.Name.{Name}

-- 64 digits, in either case
abbrev pub IsIdText : List ℕ → Type 0
IsIdText text = (length text ≡ 64) × AllPass is_hex_digit text

-- they spell the reversed bytes of the id; all else is refused, and nothing is written
abbrev pub IsIdRead : List ℕ → Name → Name → ℕ → Type 0
IsIdRead text before id result =
    (IsIdText text × (result ≡ 0) × (decode_of text ≡ Ok (reverse id.bytes)))
    ⊎ ((IsIdText text → ⊥) × (result ≡ 4) × (id ≡ before))
