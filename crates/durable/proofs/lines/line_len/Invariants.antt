use Rattle.std.proofs.Common.{take}
use Rattle.durable.specs.Lines.{IsLine}
use Rattle.durable.proofs.lines.line_len.Given as goal

abbrev pub invariant-loop-place : goal.invariant-loop-place
invariant-loop-place l = IsLine (take l.place l.text)
