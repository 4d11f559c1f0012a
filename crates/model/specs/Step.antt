-- One command and its reply.
use Rattle.std.specs.Prelude.{ℕ, zero, suc, nat_lt, if◌then◌else◌, List, [], ◌∷◌, Option, Some, None}
use Rattle.tree.specs.Branches.{height, place_of}
use Rattle.tree.specs.State.{State, with_mark, without_marks, with_call}
use Rattle.model.specs.declared.reply.Reply.{Reply}
use Rattle.model.specs.declared.reply.Reply.TheVariants as reply
use Rattle.model.specs.declared.reply.MarkReply.{MarkReply}
use Rattle.model.specs.declared.reply.MarkReply.TheVariants.{Done, NotFound, Genesis}
use Rattle.model.specs.Rules.{Rules}
use Rattle.model.specs.Settle.{active, settle}
use Rattle.model.specs.Submission.{Outcome, outcome_of_submission}

-- a command whose bytes are decoded
pub data Request (B I : Type 0) : Type 0 where
  -- at this moment, in seconds since 1970
  Submit : ℕ → B → Request B I
  Invalidate : I → Request B I
  Reconsider : I → Request B I
  Precious : I → Request B I

abbrev pub mark_says : {B : Type 0} → State B → MarkReply → Outcome B
mark_says s answer = (s, reply.Mark answer)

module _ {B I : Type 0} (r : Rules B I) where
  -- by the place of the block; genesis is never marked
  unfoldable pub outcome_of_invalidate : State B → Option ℕ → Outcome B
  outcome_of_invalidate s None = mark_says s NotFound
  outcome_of_invalidate s (Some zero) = mark_says s Genesis
  outcome_of_invalidate s (Some (suc p)) = mark_says (settle r (with_mark s (suc p))) Done

  unfoldable pub outcome_of_reconsider : State B → Option ℕ → Outcome B
  outcome_of_reconsider s None = mark_says s NotFound
  outcome_of_reconsider s (Some p) = mark_says (settle r (without_marks s p)) Done

  -- a call for a block that is lower than the active one changes nothing
  unfoldable pub outcome_of_precious : State B → Option ℕ → Outcome B
  outcome_of_precious s None = mark_says s NotFound
  outcome_of_precious s (Some p) =
      if nat_lt (height s.blocks p) (height s.blocks (active r s)) then mark_says s Done else mark_says (settle r (with_call s p)) Done

  unfoldable pub step : State B → Request B I → Outcome B
  step s (Submit now b) = outcome_of_submission r s now b (place_of r.names s.blocks (r.names.id_of b))
  step s (Invalidate i) = outcome_of_invalidate s (place_of r.names s.blocks i)
  step s (Reconsider i) = outcome_of_reconsider s (place_of r.names s.blocks i)
  step s (Precious i) = outcome_of_precious s (place_of r.names s.blocks i)

  -- the state that a list of commands leaves
  abbrev pub state_after_requests : State B → List (Request B I) → State B
  state_after_requests s [] = s
  state_after_requests s (c ∷ cs) = state_after_requests (step s c).0 cs
