-- What is found ahead of the caller's walk.
use Rattle.std.specs.Prelude.{◌≡◌, ℕ, Bool, true, false, Some, All, List, slice_get}
use Rattle.std.specs.Box.{box_value}
use Rattle.interp.specs.Answer.{Answer, Says, Wants}
use Rattle.queue.specs.declared.verdict.Verdict.{Verdict}
use Rattle.queue.specs.declared.verdict.Verdict.TheVariants as verdict
use Rattle.queue.specs.declared.found.Found.{Found}
use Rattle.queue.specs.declared.found.Seen.{Seen}

-- what a verdict says
abbrev pub answer_of : Verdict → Answer Bool
answer_of verdict.Yes = Says true
answer_of verdict.No = Says false
answer_of (verdict.Wants t) = Wants (box_value t)

-- each job that is marked is accepted
abbrev pub AreAccepted : (ℕ → Answer Bool) → List Bool → Type 0
AreAccepted verdict accepted = (place : ℕ) → slice_get accepted place ≡ Some true → verdict place ≡ Says true

-- each of these verdicts is that of its place
abbrev pub AreOf : (ℕ → Answer Bool) → List Seen → Type 0
AreOf verdict seen = All (λ s. verdict s.place ≡ answer_of s.verdict) seen

-- all that was found is right
pub record IsRight (verdict : ℕ → Answer Bool) (found : Found) : Type 0 where
  pub accepted : AreAccepted verdict found.accepted.items
  pub others : AreOf verdict found.others.items
