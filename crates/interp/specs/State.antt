-- What a script runs on.
use Rattle.std.specs.Prelude.{ℕ, List, [], Bool}
use Rattle.std.specs.List.{list_all}
use Rattle.interp.specs.Stack.{Stack}

pub record State : Type 0 where
  pub main : Stack
  pub alt : Stack
  -- for each open condition, the innermost first, whether its branch is taken
  pub conditions : List Bool
  -- opcodes above 60, taken or not, and the keys of each CHECKMULTISIG
  pub count : ℕ
  -- what is signed: the script from after its last executed CODESEPARATOR
  pub code : List ℕ

-- every open branch is taken
abbrev pub is_executing : State → Bool
is_executing s = list_all (λ taken. taken) s.conditions

abbrev pub start : List ℕ → Stack → State
start script main = record { main = main; alt = []; conditions = []; count = 0; code = script }
