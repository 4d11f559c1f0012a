use Rattle.std.proofs.Common.{◌≡◌, length}
use Rattle.queue.specs.inside.Walk.{AreRight}
use Rattle.queue.proofs.walk.empty_slots.Given as goal

abbrev pub invariant-loop : goal.invariant-loop
invariant-loop g l = record {
  right : AreRight (g.C.Places.verdict l._list) l.slots.items;
  count : length l.slots.items ≡ l.counter;
}
