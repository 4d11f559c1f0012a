use Rattle.std.proofs.Common.{◌≡◌, length}
use Rattle.queue.specs.inside.KnownAnswers.{AreSaid, AreWanted}
use Rattle.queue.specs.inside.Walk.{AreRight}
use Rattle.queue.proofs.early.all_answers.Given as goal

-- what was found of each place before
abbrev pub invariant-loop-place : goal.invariant-loop-place
invariant-loop-place g l = record {
  right : AreRight (g.C.Places.verdict l.list) l.slots.items;
  said : AreSaid (g.C.Places.verdict l.list) l.found.answers.items;
  wanted : AreWanted (g.C.Places.verdict l.list) l.found.wants.items;
  answers : length l.found.answers.items ≡ l.place;
  wants : length l.found.wants.items ≡ l.place;
}
