use Rattle.std.proofs.Common.{◌≡◌, length}
use Rattle.queue.specs.Ahead.{AreAccepted}
use Rattle.queue.proofs.found.joined.Given as goal

abbrev pub invariant-loop-place : goal.invariant-loop-place
invariant-loop-place g l = (length l.accepted.items ≡ length l.initial.accepted.items) × AreAccepted (g.C.Places.verdict l._list) l.accepted.items
