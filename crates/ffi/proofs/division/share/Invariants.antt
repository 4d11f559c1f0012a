-- As many bits of 2 ^ 256 are divided as were taken in.
use Rattle.std.proofs.Common.{◌≡◌, ◌+◌, ◌*◌, ◌^◌, ◌≤◌}
use Rattle.ffi.specs.inside.Wide.{value}
use Rattle.ffi.proofs.division.share.Given as goal

abbrev pub invariant-loop : goal.invariant-loop
invariant-loop l = record {
  sum : value l.found.quotient * (value l.by + 1) + value l.found.rest ≡ 2 ^ l.counter;
  rest : value l.found.rest ≤ value l.by;
}
