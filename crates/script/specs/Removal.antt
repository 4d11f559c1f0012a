-- A script without the opcodes that equal one of some pieces (Bitcoin Core's `FindAndDelete`, of one opcode a piece).
use Rattle.std.specs.Prelude.{ℕ, List, ◌++◌, map, Bool, not}
use Rattle.std.specs.Borrow.{Bor}
use Rattle.std.specs.List.{list_any, filter, concat}
use Rattle.std.specs.Str.{bytes_eq}
use Rattle.script.specs.Ops.{ops, rest}

-- the bytes of slices
abbrev pub bytes_of : List (Bor (List ℕ)) → List (List ℕ)
bytes_of slices = map (λ slice. slice.now) slices

-- whether an opcode is one of the pieces
unfoldable pub is_among : List (List ℕ) → List ℕ → Bool
is_among pieces op = list_any (λ piece. bytes_eq piece op) pieces

-- the opcodes that are none of the pieces, in order, and the rest
unfoldable pub without : List (List ℕ) → List ℕ → List ℕ
without pieces script = concat (filter (λ op. not (is_among pieces op)) (ops script)) ++ rest script
