use Rattle.std.proofs.Common.{◌≡◌, false, drop}
use Rattle.durable.specs.Lines.{has_whole_line}
use Rattle.durable.proofs.lines.has_whole_line.Given as goal

abbrev pub invariant-loop-place : goal.invariant-loop-place
invariant-loop-place l = has_whole_line l.is_begun (drop l.place l.bytes) ≡ has_whole_line false l.bytes
