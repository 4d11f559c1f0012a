use Rattle.std.proofs.Common.{◌≡◌, length, take}
use Rattle.std.specs.FinSet as set
use Rattle.signatures.specs.Triple.{triple_cmp}
use Rattle.signatures.specs.Lines.{lines, IsTableOf}
use Rattle.signatures.proofs.table.Table.from_lines.Given as goal

-- the triples are a table of the lines so far
abbrev pub invariant-loop-line : goal.invariant-loop-line
invariant-loop-line l = record {
  count : l.number ≡ length l.yielded;
  table : IsTableOf (take (length l.yielded) (lines l.fn.text)) (set.from_list {R = triple_cmp} l.triples.items);
}
