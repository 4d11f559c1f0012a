use Rattle.queue.specs.Ahead.{IsRight}
use Rattle.queue.proofs.workers.work.Given as goal

abbrev pub invariant-loop : goal.invariant-loop
invariant-loop g l = IsRight (g.C.Places.verdict l.list) l.found
