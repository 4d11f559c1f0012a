use Rattle.std.proofs.Common.{◌≡◌, ◌*◌, take, pos, neg_ℤ, ◌≤ℤ◌}
use Rattle.txn.specs.Check.{total}
use Rattle.connect.proofs.amounts.paid.Given as goal

abbrev pub invariant-loop-output : goal.invariant-loop-output
invariant-loop-output l = record {
  sum : l.sum ≡ total (take l.output-index l.outputs);
  low : neg_ℤ (pos (9223372036854775808 * l.output-index)) ≤ℤ l.sum;
  high : l.sum ≤ℤ pos (9223372036854775808 * l.output-index);
}
