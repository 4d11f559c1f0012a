use Rattle.std.proofs.Common.{length}
use Rattle.journal.specs.Line.{AreNumbered}
use Rattle.journal.proofs.ReadLines.{AreRead}
use Rattle.journal.proofs.saved_journal.read_journal.Given as goal

abbrev pub invariant-loop-rest : goal.invariant-loop-rest
invariant-loop-rest l = record {
  lines : AreRead l.text l.steps.items l.rest;
  numbers : AreNumbered l.steps.items;
}

abbrev pub decreases-loop-rest : goal.decreases-loop-rest
decreases-loop-rest l = length l.rest
