use Rattle.std.proofs.Common.{◌≡◌, ◌-◌, ◌≤◌, Some, length}
use Rattle.std.specs.Prelude.{IfSome, slice_get}
use Rattle.interp.specs.declared.job.Job.{Job}
use Rattle.interp.specs.Question.{question_of}
use Rattle.queue.specs.Jobs.{verdict_at}
use Rattle.queue.specs.Early.{AreKnown, Fits}
use Rattle.queue.proofs.Pairs.{AllKnownBelow}
use Rattle.queue.proofs.known_verdicts.answers_in.Given as goal

abbrev pub invariant-loop-place : goal.invariant-loop-place
invariant-loop-place g l = record {
  right : AreKnown (verdict_at (g.S.KnowsSignatures.known l.by) l.jobs) l.known.items;
  all : AllKnownBelow l.index.verdicts.now l.jobs l.place l.known.items;
  count : length l.known.items ≡ l.place;
  before : (job : Job) → 1 ≤ l.place → slice_get l.jobs (l.place - 1) ≡ Some job → IfSome l.slot (λ slot. Fits l.index.verdicts.now slot (question_of job));
}
