use Rattle.std.proofs.Common.{◌≡◌}
use Rattle.queue.specs.FirstAnswer.{NoneRefused, wants_below}
use Rattle.queue.specs.inside.Walk.{AreRight}
use Rattle.queue.proofs.walk.go_through.Given as goal

-- no place before is refused, and what they want was gathered
abbrev pub invariant-loop-place : goal.invariant-loop-place
invariant-loop-place g l = record {
  before : NoneRefused (g.C.Places.count l.list) (g.C.Places.verdict l.list) l.place;
  wanted : l.wants.items ≡ wants_below (g.C.Places.verdict l.list) l.place;
  right : AreRight (g.C.Places.verdict l.list) l.slots.items;
}
