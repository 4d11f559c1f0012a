use Rattle.std.proofs.Common.{◌≡◌, ◌-◌, ◌≤◌, length, true}
use Rattle.queue.specs.Early.{AreAllAsked, IsAskedAt}
use Rattle.queue.proofs.same_jobs.asked_by.Given as goal

abbrev pub invariant-loop-place : goal.invariant-loop-place
invariant-loop-place l = record {
  all : AreAllAsked l.own l.jobs l.asked.items;
  count : length l.asked.items ≡ l.place;
  before : l.before ≡ true → 1 ≤ l.place → IsAskedAt l.own l.jobs (l.place - 1);
}
