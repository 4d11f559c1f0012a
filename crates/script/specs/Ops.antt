-- The opcodes of a script, and the rest, as they are found from left to right. That there is no other way to split a
-- script is a law.
use Rattle.std.specs.Prelude.{ℕ, Bool, zero, suc, ◌+◌, List, [], ◌∷◌, length, take, drop, Option, Some, None, option_and_then, nat_lt, ◌==◌, if◌then◌else◌}
use Rattle.std.specs.Option.{option_map_or}
use Rattle.std.specs.List.{concat}
use Rattle.std.specs.Int.{w32, from_le_bytes}
use Rattle.script.specs.Op.{length_width}

-- so many bytes for a length, the lowest first, and that many bytes; the number is the length where there are none
abbrev pub sized_len : ℕ → List ℕ → ℕ → Option ℕ
sized_len number bytes zero = Some number
sized_len number bytes width = if nat_lt (length bytes) width then None else Some (width + from_le_bytes w32 (take width bytes))

-- how many bytes belong to an opcode after its number, where its length is there
unfoldable pub operand_len : ℕ → List ℕ → Option ℕ
operand_len number bytes = option_map_or (sized_len number bytes) (length_width number) (Some 0)

-- the length with the number, where so many bytes are there
abbrev pub within : List ℕ → ℕ → Option ℕ
within bytes len = if nat_lt (length bytes) len then None else Some (len + 1)

-- the length of the opcode at the front, where it is whole
abbrev pub op_len : List ℕ → Option ℕ
op_len [] = None
op_len (number ∷ bytes) = option_and_then (within bytes) (operand_len number bytes)

-- the opcode at the front, and the ones of what follows it
abbrev pub cut_first : (List ℕ → List (List ℕ)) → List ℕ → Option ℕ → List (List ℕ)
cut_first others bytes None = []
cut_first others bytes (Some len) = take len bytes ∷ others (drop len bytes)

-- at most so many opcodes
abbrev pub ops_within : ℕ → List ℕ → List (List ℕ)
ops_within zero bytes = []
ops_within (suc most) bytes = cut_first (ops_within most) bytes (op_len bytes)

-- the opcodes of a script
unfoldable pub ops : List ℕ → List (List ℕ)
ops script = ops_within (length script) script

-- what follows them: nothing, or a push that is cut short
unfoldable pub rest : List ℕ → List ℕ
rest script = drop (length (concat (ops script))) script

-- whether nothing does: the script is wholly readable
abbrev pub is_whole : List ℕ → Bool
is_whole script = length (rest script) == 0
