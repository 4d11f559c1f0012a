-- What was made is of the inputs before this one.
use Rattle.std.proofs.Common.{◌≡◌, map, take}
use Rattle.ffi.specs.Parts.{input_row}
use Rattle.ffi.proofs.parts.input_rows.Given as goal

abbrev pub invariant-loop-input : goal.invariant-loop-input
invariant-loop-input l = l.rows.items ≡ map input_row (take l.input-index l.inputs)
