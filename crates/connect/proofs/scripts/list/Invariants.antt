use Rattle.std.proofs.Common.{◌≡◌, ◌+◌, ◌≤◌, ◌++◌, All, length, drop, sum_by}
use Rattle.std.specs.List.{AllZip}
use Rattle.queue.specs.Jobs.{HasInput}
use Rattle.connect.specs.inside.ScriptLists.{checks_from, checks_in, IsEven}
use Rattle.connect.proofs.scripts.list.Given as goal

abbrev pub invariant-loop-index : goal.invariant-loop-index
invariant-loop-index l = record {
  even : IsEven l.checks;
  inputs : All HasInput l.checks.jobs.items;
  alike : AllZip (λ tx coins. length coins ≤ length tx.inputs) (drop l.index l.txs) (drop l.index l.undo);
  checks_from : checks_in l.checks ++ checks_from l.flags (l.index + 1) (drop l.index l.txs) (drop l.index l.undo) ≡ checks_from l.flags 1 l.txs l.undo;
  few : length l.checks.jobs.items + sum_by (λ coins. length coins) (drop l.index l.undo) ≡ sum_by (λ coins. length coins) l.undo;
}
