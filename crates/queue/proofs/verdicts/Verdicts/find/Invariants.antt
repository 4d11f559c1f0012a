use Rattle.std.proofs.Common.{◌≡◌, ℕ, ◌<◌, Some}
use Rattle.std.specs.Prelude.{IsSome, slice_get}
use Rattle.interp.specs.Question.{question_of}
use Rattle.queue.specs.Early.{answer_at}
use Rattle.queue.specs.Jobs.{answers_to, known_then, questions}
use Rattle.queue.proofs.verdicts.Verdicts.find.Given as goal

abbrev pub invariant-loop-at : goal.invariant-loop-at
invariant-loop-at l = (i : ℕ) → i < l.at → slice_get (questions l.self.batch) i ≡ Some (question_of l.job) → ¬ IsSome (answer_at (answers_to (known_then l.self) (questions l.self.batch)) i)
