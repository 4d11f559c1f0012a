use Rattle.queue.specs.inside.Walk.{AreRight}
use Rattle.queue.proofs.walk.slots_of.Given as goal

abbrev pub invariant-loop-found : goal.invariant-loop-found
invariant-loop-found g l = AreRight (g.C.Places.verdict l._list) l.slots.items
