use Rattle.std.proofs.Common.{◌≤◌}
use Rattle.queue.proofs.crew.busy_workers.Given as goal

abbrev pub invariant-loop-place : goal.invariant-loop-place
invariant-loop-place g l = l.left ≤ l.place
