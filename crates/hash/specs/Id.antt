-- Ids of blocks and transactions.
use Rattle.std.specs.Prelude.{◌≡◌, ◌==◌, ℕ, Bool, List, length, reverse}
use Rattle.std.specs.declared.cmp.Ordering.{Ordering}
use Rattle.std.specs.Ordering.{nat_cmp}
use Rattle.std.specs.Cmp.Lexicographic.{slice_cmp}
use lib.Pointwise.{pointwise}
use Rattle.hex.specs.Hex.{IsBytes, encode_lower}
use Rattle.hash.specs.declared.id.Id.{Id}

-- an id is 32 bytes
abbrev pub IsWhole : Id → Type 0
IsWhole id = (length id.0 ≡ 32) × IsBytes id.0

abbrev pub same_id : Id → Id → Bool
same_id a b = pointwise ◌==◌ a.0 b.0

-- the order of ids, by their bytes as they are hashed
abbrev pub id_cmp : Id → Id → Ordering
id_cmp a b = slice_cmp nat_cmp a.0 b.0

-- as it is printed: the reversed bytes in lower-case hexadecimal
abbrev pub hex_of_id : Id → List ℕ
hex_of_id id = encode_lower (reverse id.0)
