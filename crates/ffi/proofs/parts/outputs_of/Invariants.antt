-- What was made is of the rows before this one, and has the scripts that were taken.
use Rattle.std.proofs.Common.{◌≡◌, ◌+◌, ◌++◌, length, map, take}
use Rattle.ffi.specs.Parts.{output_row, output_scripts, output_bytes}
use Rattle.ffi.proofs.parts.outputs_of.Given as goal

abbrev pub invariant-loop-row : goal.invariant-loop-row
invariant-loop-row l = record {
  rows : map output_row l.list.items ≡ take l.row-index l.rows;
  bytes : l.fn.scripts ≡ output_scripts l.list.items ++ l.scripts;
  count : length l.fn.scripts ≡ output_bytes (take l.row-index l.rows) + length l.scripts;
}
