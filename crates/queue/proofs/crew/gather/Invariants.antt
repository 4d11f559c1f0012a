use Rattle.queue.specs.Ahead.{IsRight}
use Rattle.queue.proofs.crew.gather.Given as goal

abbrev pub invariant-loop-report : goal.invariant-loop-report
invariant-loop-report g l = IsRight (g.C.Places.verdict l._list) l.all
