-- The fewest bytes of parts of which there are lists.
use Rattle.std.specs.Prelude.{ℕ}

-- an id of 32, an index of 4, the count of an empty script, a sequence of 4
abbrev pub least_input : ℕ
least_input = 41

-- a value of 8, the count of an empty script
abbrev pub least_output : ℕ
least_output = 9

-- the count of a witness, or the length of a string
abbrev pub least_count : ℕ
least_count = 1
