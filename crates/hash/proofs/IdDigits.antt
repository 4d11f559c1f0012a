-- What the digits of an id decode to.
use Rattle.std.proofs.Common.{◌≡◌, ℕ, ◌-◌, ◌≤◌, List, length, reverse, Ok, ◌∙◌, inl, inr, arith}
use Rattle.std.proofs.lemmas.Bool.{cases_lt}
use Rattle.std.proofs.lemmas.List.{length-reverse, get_or-reverse, get_or_past}
use Rattle.hex.specs.Hex.{IsBytes, decode_sized}
use Rattle.hex.proofs.HexLemmas.{decode_sized-encode_lower}
use Rattle.hash.specs.declared.id.Id.{Id}
use Rattle.hash.specs.Id.{hex_of_id, IsWhole}

-- reversed bytes are bytes
IsBytes-reverse : (xs : List ℕ) → IsBytes xs → IsBytes (reverse xs)
IsBytes-reverse xs h i =
    elim (cases_lt i (length xs)) [
      | inl below ↦ rw (get_or-reverse xs i 0 below) (h (length xs - 1 - i))
      | inr past ↦ let len : length (reverse xs) ≤ i = omega (arith, length-reverse xs) in rw (get_or_past (reverse xs) i 0 len) (omega arith)
    ]

-- what is shown of an id decodes to its reversed bytes
pub decode_sized-shown : (id : Id) → IsWhole id → decode_sized (hex_of_id id) 32 ≡ Ok (reverse id.0)
decode_sized-shown id whole =
    decode_sized-encode_lower (reverse id.0) 32 (length-reverse id.0 ∙ whole.0) (IsBytes-reverse id.0 whole.1)
