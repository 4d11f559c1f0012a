-- The lines so far can be read.
use Rattle.std.proofs.Common.{◌≡◌, length, take}
use Rattle.std.specs.List.{All}
use Rattle.signatures.specs.Lines.{lines, IsReadable}
use Rattle.serving.proofs.params.check_lines.Given as goal

abbrev pub invariant-loop-line : goal.invariant-loop-line
invariant-loop-line l = record {
  count : l.number ≡ length l.yielded;
  readable : All IsReadable (take (length l.yielded) (lines l.fn.text));
}
