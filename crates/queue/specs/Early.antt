-- Answers that are known before jobs are run.
use Rattle.std.specs.Prelude.{◌≡◌, ℕ, Bool, true, List, Option, Some, IsSome, slice_get}
use Rattle.std.specs.Option.{option_and_then}
use Rattle.interp.specs.Answer.{Answer, Says}
use Rattle.interp.specs.Question.{Question, question_of}
use Rattle.interp.specs.declared.job.Job.{Job}
use Rattle.interp.specs.computed.Step.{verdict}
use Rattle.queue.specs.declared.verdict_index.Slot.{Slot}
use Rattle.queue.specs.Jobs.{Answered, known_then, questions}

-- a verdict of some lists, in a slot, answers this question
pub record Fits (verdicts : List Answered) (slot : Slot) (q : Question) : Type 0 where
  pub own : Answered
  pub there : slice_get verdicts slot.verdicts ≡ Some own
  pub asked : slice_get (questions own.batch) slot.place ≡ Some q
  pub answer : Bool
  pub says : verdict (known_then own) q ≡ Says answer

-- the answer at a place, if it is known
abbrev pub answer_at : List (Option Bool) → ℕ → Option Bool
answer_at known place = option_and_then (λ answer. answer) (slice_get known place)

-- of each job that a verdict fits it is known
abbrev pub AreAllKnown : List Answered → List Job → List (Option Bool) → Type 0
AreAllKnown verdicts jobs known =
    (place : ℕ) (job : Job) (slot : Slot) → slice_get jobs place ≡ Some job → Fits verdicts slot (question_of job) → IsSome (answer_at known place)

-- where an answer of a job is known, it is the verdict
abbrev pub AreKnown : (ℕ → Answer Bool) → List (Option Bool) → Type 0
AreKnown verdict answers = (place : ℕ) (answer : Bool) → slice_get answers place ≡ Some (Some answer) → verdict place ≡ Says answer

-- ---- what early verdicts want

-- the job at a place is what these verdicts were asked at that place, if there is a job
abbrev pub IsAskedAt : Answered → List Job → ℕ → Type 0
IsAskedAt own jobs place = (job : Job) → slice_get jobs place ≡ Some job → slice_get (questions own.batch) place ≡ Some (question_of job)

-- so is each job that is marked
abbrev pub AreAllAsked : Answered → List Job → List Bool → Type 0
AreAllAsked own jobs marks = (place : ℕ) → slice_get marks place ≡ Some true → IsAskedAt own jobs place

-- of the first of some lists of verdicts
abbrev pub AreAskedAt : List Answered → List Job → List Bool → Type 0
AreAskedAt verdicts jobs marks = (own : Answered) → slice_get verdicts 0 ≡ Some own → AreAllAsked own jobs marks
