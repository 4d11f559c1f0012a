-- What was made is of the outputs before this one.
use Rattle.std.proofs.Common.{◌≡◌, map, take}
use Rattle.ffi.specs.Parts.{output_row}
use Rattle.ffi.proofs.parts.output_rows.Given as goal

abbrev pub invariant-loop-output : goal.invariant-loop-output
invariant-loop-output l = l.rows.items ≡ map output_row (take l.output-index l.outputs)
