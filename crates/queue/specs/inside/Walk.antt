-- The caller's walk over a list, and what workers found ahead of it.
use Rattle.std.specs.Prelude.{◌≡◌, ℕ, Bool, List, Option, Some, slice_get}
use Rattle.signatures.specs.Triple.{Triple}
use Rattle.interp.specs.Answer.{Answer}
use Rattle.queue.specs.declared.verdict.Verdict.{Verdict}
use Rattle.queue.specs.Ahead.{answer_of}
use Rattle.queue.specs.FirstAnswer.{IsEnd, wants_below}

-- each verdict in a slot is right at its place
abbrev pub AreRight : (ℕ → Answer Bool) → List (Option Verdict) → Type 0
AreRight verdict slots = (place : ℕ) (v : Verdict) → slice_get slots place ≡ Some (Some v) → verdict place ≡ answer_of v

-- a walk came to the first no, or to the end, and gathered what is wanted before it
pub record Walked (count : ℕ) (verdict : ℕ → Answer Bool) (end : ℕ) (wants : List Triple) : Type 0 where
  pub is_end : IsEnd count verdict end
  pub are : wants ≡ wants_below verdict end
