-- What was joined is of the outputs before this one.
use Rattle.std.proofs.Common.{◌≡◌, ◌++◌, take}
use Rattle.ffi.specs.Parts.{output_scripts}
use Rattle.ffi.proofs.parts.join_outputs.Given as goal

abbrev pub invariant-loop-output : goal.invariant-loop-output
invariant-loop-output l = l.scripts.items ≡ l.fn.scripts.items ++ output_scripts (take l.output-index l.outputs)
