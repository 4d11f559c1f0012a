-- What the private functions give, in the definition's words.
use Rattle.std.specs.Prelude.{ℕ, List}
use Rattle.ripemd.specs.Line.{f1, f2, f3, f4, f5, left_line, right_line}
use Rattle.ripemd.specs.Block.{after_steps}
use Rattle.ripemd.specs.declared.line.Bitwise.{Bitwise}
use Rattle.ripemd.specs.declared.line.Bitwise.TheVariants.{F1, F2, F3, F4, F5}
use Rattle.ripemd.specs.declared.state.State.{State}
use Rattle.ripemd.specs.declared.block.Lines.{Lines}

-- the function that is named
abbrev pub function_of : Bitwise → ℕ → ℕ → ℕ → ℕ
function_of F1 = f1
function_of F2 = f2
function_of F3 = f3
function_of F4 = f4
function_of F5 = f5

-- both lines after n steps from h
abbrev pub lines_after : List ℕ → State → ℕ → Lines
lines_after x h n = record { left = after_steps left_line x h n; right = after_steps right_line x h n }
