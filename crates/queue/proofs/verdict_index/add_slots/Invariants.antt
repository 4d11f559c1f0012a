use Rattle.std.specs.Prelude.{IsSome}
use Rattle.queue.specs.declared.verdict_index.Key.{Key}
use Rattle.queue.specs.inside.KnownAnswers.{slot_for}
use Rattle.queue.proofs.Pairs.{OwnBelow}
use Rattle.queue.proofs.verdict_index.add_slots.Given as goal

abbrev pub invariant-loop-place : goal.invariant-loop-place
invariant-loop-place l = record {
  own : OwnBelow l.own l.slots.entries l.place;
  others : (key : Key) → IsSome (slot_for l.initial.slots.entries key) → IsSome (slot_for l.slots.entries key);
}
