use Rattle.queue.specs.Ahead.{IsRight}
use Rattle.queue.proofs.workers.work_between.Given as goal

abbrev pub invariant-loop-place : goal.invariant-loop-place
invariant-loop-place g l = IsRight (g.C.Places.verdict l.list) l.found
