use Rattle.std.proofs.Common.{◌≡◌, ◌+◌, drop}
use Rattle.durable.specs.Lines.{is_spoiled, first_zero}
use Rattle.durable.proofs.lines.spoiled_at.Given as goal

abbrev pub invariant-loop-place : goal.invariant-loop-place
invariant-loop-place l = record {
  same : is_spoiled (drop l.place l.bytes) ≡ is_spoiled l.bytes;
  place : first_zero (drop l.place l.bytes) + l.place ≡ first_zero l.bytes;
}
