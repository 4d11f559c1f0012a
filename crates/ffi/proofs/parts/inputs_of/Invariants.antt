-- What was made is of the rows before this one, and has the scripts that were taken.
use Rattle.std.proofs.Common.{◌≡◌, ◌+◌, ◌++◌, length, map, take}
use Rattle.ffi.specs.Parts.{input_row, input_scripts, input_bytes}
use Rattle.ffi.proofs.parts.inputs_of.Given as goal

abbrev pub invariant-loop-row : goal.invariant-loop-row
invariant-loop-row l = record {
  rows : map input_row l.list.items ≡ take l.row-index l.rows;
  bytes : l.fn.scripts ≡ input_scripts l.list.items ++ l.scripts;
  count : length l.fn.scripts ≡ input_bytes (take l.row-index l.rows) + length l.scripts;
}
