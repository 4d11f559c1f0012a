-- What was joined is of the inputs before this one.
use Rattle.std.proofs.Common.{◌≡◌, ◌++◌, take}
use Rattle.ffi.specs.Parts.{input_scripts}
use Rattle.ffi.proofs.parts.join_inputs.Given as goal

abbrev pub invariant-loop-input : goal.invariant-loop-input
invariant-loop-input l = l.scripts.items ≡ l.fn.scripts.items ++ input_scripts (take l.input-index l.inputs)
