use Rattle.std.proofs.Common.{◌≡◌, ◌+◌, ◌++◌, All, length, take}
use Rattle.queue.specs.Jobs.{HasInput}
use Rattle.connect.specs.Scripts.{input_checks}
use Rattle.connect.specs.inside.ScriptLists.{checks_in, IsEven}
use Rattle.connect.proofs.scripts.add.Given as goal

abbrev pub invariant-loop-input : goal.invariant-loop-input
invariant-loop-input l = record {
  even : IsEven l.checks;
  inputs : All HasInput l.checks.jobs.items;
  checks_from : checks_in l.checks ≡ checks_in l.initial.checks ++ input_checks l.flags l.place l.tx (take l.input l.coins);
  few : length l.checks.jobs.items ≡ length l.initial.checks.jobs.items + l.input;
}
