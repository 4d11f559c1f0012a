-- What a submitted block does (Bitcoin Core's `submitblock`).
use Rattle.std.specs.Prelude.{ℕ, suc, ◌==◌, nat_le, not, if◌then◌else◌, length, Option, Some, None, unwrap_or}
use Rattle.txn.specs.declared.reason.Reason.{Reason}
use Rattle.tree.specs.Branches.{has, place_of}
use Rattle.tree.specs.State.{State, has_no_mark, with_block}
use Rattle.tree.specs.Limits.{max_blocks}
use Rattle.model.specs.declared.reply.Reply.{Reply}
use Rattle.model.specs.declared.reply.Reply.TheVariants as reply
use Rattle.model.specs.declared.reply.SubmitReply.{SubmitReply}
use Rattle.model.specs.declared.reply.SubmitReply.TheVariants.{Accepted, Inconclusive, Duplicate, DuplicateInvalid, DuplicateInconclusive, Rejected, TreeFull}
use Rattle.model.specs.Rules.{Rules}
use Rattle.model.specs.Valid.{fault}
use Rattle.model.specs.Settle.{active, settle}
use Rattle.model.specs.Context.{first_fault}

-- the reason why a block that was just added is marked
abbrev pub reply_by_reason : Option Reason → SubmitReply
reply_by_reason None = Inconclusive
reply_by_reason (Some reason) = Rejected reason

-- a state, and the reply of the step that led to it
abbrev pub Outcome : Type 0 → Type 0
Outcome B = State B × Reply

abbrev pub submit_says : {B : Type 0} → State B → SubmitReply → Outcome B
submit_says s answer = (s, reply.Submit answer)

-- genesis is one of the blocks that are kept
abbrev pub kept_blocks : {B : Type 0} → State B → ℕ
kept_blocks s = suc (length s.blocks)

module _ {B I : Type 0} (r : Rules B I) where
  -- of a block that was kept before
  unfoldable pub answer_known : State B → ℕ → SubmitReply
  answer_known s p = if not (has_no_mark s p) then DuplicateInvalid else if has s.seen p then Duplicate else DuplicateInconclusive

  -- of a block that was added
  unfoldable pub answer_added : State B → ℕ → SubmitReply
  answer_added s p =
      if p == active r s then Accepted else if has s.bad p then reply_by_reason (fault r s.blocks p) else Inconclusive

  -- the settled state, and the answer to the block that came last
  abbrev pub outcome_of_added : State B → Outcome B
  outcome_of_added settled = submit_says settled (answer_added settled (length settled.blocks))

  -- by the first fault before connection; without one the parent is kept
  unfoldable pub outcome_by_fault : State B → B → Option Reason → Outcome B
  outcome_by_fault s b (Some reason) = submit_says s (Rejected reason)
  outcome_by_fault s b None = outcome_of_added (settle r (with_block s b (unwrap_or (place_of r.names s.blocks (r.names.parent_of b)) 0)))

  -- by the place at which the block is kept
  unfoldable pub outcome_of_submission : State B → ℕ → B → Option ℕ → Outcome B
  outcome_of_submission s now b (Some p) = submit_says s (answer_known s p)
  outcome_of_submission s now b None =
      if nat_le max_blocks (kept_blocks s) then submit_says s TreeFull else outcome_by_fault s b (first_fault r s now b)
