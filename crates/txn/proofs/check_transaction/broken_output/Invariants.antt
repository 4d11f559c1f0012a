use Rattle.std.proofs.Common.{◌≡◌, [], take, drop, pos, ◌≤ℤ◌}
use Rattle.txn.specs.First.{first_broken}
use Rattle.txn.specs.Check.{max_money, total, output_rules}
use Rattle.txn.proofs.check_transaction.broken_output.Given as goal

-- the rules of the outputs to come are those of all
abbrev pub invariant-loop-output : goal.invariant-loop-output
invariant-loop-output l = record {
  sum : l.sum ≡ total (take l.output-index l.outputs);
  low : pos 0 ≤ℤ l.sum;
  high : l.sum ≤ℤ max_money;
  rest : first_broken (output_rules [] l.outputs) ≡ first_broken (output_rules (take l.output-index l.outputs) (drop l.output-index l.outputs));
}
