-- What a command comes to: a step with a reply of its kind, or bytes that are no block.
use Rattle.std.proofs.Common.{◌≡◌, ℕ, zero, suc, Bool, true, false, cond, not, eqb, List, Option, Some, None, length, ◌⊎◌, inl, inr, refl}
use Rattle.std.specs.Option.{unwrap_or}
use Rattle.hash.specs.declared.id.Id.{Id}
use Rattle.txn.specs.declared.reason.Reason.{Reason}
use Rattle.block.specs.declared.block.Block.{Block}
use Rattle.block.specs.BlockOfBytes.{block_of_bytes}
use Rattle.tree.specs.Branches.{has, place_of}
use Rattle.tree.specs.State.{State, has_no_mark, with_block, with_call}
use Rattle.model.specs.declared.command.Command.{Command}
use Rattle.model.specs.declared.command.Command.TheVariants as command
use Rattle.model.specs.declared.reply.Reply.{Reply}
use Rattle.model.specs.declared.reply.Reply.TheVariants as reply
use Rattle.model.specs.declared.reply.MarkReply.TheVariants.{Done}
use Rattle.model.specs.declared.reply.SubmitReply.{SubmitReply}
use Rattle.model.specs.declared.reply.SubmitReply.TheVariants.{Accepted, Inconclusive, Duplicate, DuplicateInvalid, DuplicateInconclusive, Rejected, DecodeFailed, TreeFull}
use Rattle.model.specs.Rules.{Rules}
use Rattle.model.specs.Valid.{fault}
use Rattle.model.specs.Settle.{active, settle}
use Rattle.model.specs.Context.{first_fault}
use Rattle.model.specs.Submission.{Outcome, submit_says, reply_by_reason, answer_known, answer_added, outcome_by_fault, outcome_of_submission}
use Rattle.model.specs.Step.{Submit, Invalidate, Reconsider, Precious, mark_says, outcome_of_invalidate, outcome_of_reconsider, outcome_of_precious, step}
use Rattle.model.specs.Commands.{submit_step, command_step, outcome}
use Rattle.node.specs.inside.Kept.{is_step, IsReplyTo, IsUndecodable}

-- a reply to a submission that was a step
abbrev IsJudgement : SubmitReply → Type 0
IsJudgement DecodeFailed = ⊥
IsJudgement value = Unit {0}

by_test : (P : SubmitReply → Type 0) (b : Bool) (x y : SubmitReply) → P x → P y → P (cond b x y)
by_test P true x y p q = p
by_test P false x y p q = q

-- a reply to a step of a submission, or to one of a mark
abbrev IsSubmission : Reply → Type 0
IsSubmission (reply.Submit value) = IsJudgement value
IsSubmission (reply.Mark value) = ⊥

abbrev IsMarking : Reply → Type 0
IsMarking (reply.Submit value) = ⊥
IsMarking (reply.Mark value) = Unit {0}

by_outcome : (P : Reply → Type 0) (b : Bool) (x y : Outcome Block) → P x.1 → P y.1 → P (cond b x y).1
by_outcome P true x y p q = p
by_outcome P false x y p q = q

module _ (r : Rules Block Id) (s : State Block) where
  is_rejected : (o : Option Reason) → IsJudgement (reply_by_reason o)
  is_rejected None = tt
  is_rejected (Some reason) = tt

  of_known : (p : ℕ) → IsJudgement (answer_known r s p)
  unfolding answer_known
  of_known p =
      by_test IsJudgement (not (has_no_mark s p)) DuplicateInvalid _ tt
      (by_test IsJudgement (has s.seen p) Duplicate DuplicateInconclusive tt tt)

  of_added : (p : ℕ) → IsJudgement (answer_added r s p)
  unfolding answer_added
  of_added p =
      by_test IsJudgement (eqb p (active r s)) Accepted _ tt
      (by_test IsJudgement (has s.bad p) (reply_by_reason (fault r s.blocks p)) Inconclusive (is_rejected (fault r s.blocks p)) tt)

module _ (r : Rules Block Id) (s : State Block) where
  of_judged : (b : Block) (o : Option Reason) → IsSubmission (outcome_by_fault r s b o).1
  unfolding outcome_by_fault
  of_judged b (Some reason) = tt
  of_judged b None =
      let t = settle r (with_block s b (unwrap_or (place_of r.names s.blocks (r.names.parent_of b)) 0)) in
      of_added r t (length t.blocks)

  of_submitted : (now : ℕ) (b : Block) (o : Option ℕ) → IsSubmission (outcome_of_submission r s now b o).1
  unfolding outcome_of_submission
  of_submitted now b (Some p) = of_known r s p
  of_submitted now b None = by_outcome IsSubmission _ (submit_says s TreeFull) (outcome_by_fault r s b (first_fault r s now b)) tt (of_judged b (first_fault r s now b))

  of_submit : (now : ℕ) (b : Block) → IsSubmission (step r s (Submit now b)).1
  unfolding step
  of_submit now b = of_submitted now b (place_of r.names s.blocks (r.names.id_of b))

  of_invalidated : (o : Option ℕ) → IsMarking (outcome_of_invalidate r s o).1
  unfolding outcome_of_invalidate
  of_invalidated None = tt
  of_invalidated (Some zero) = tt
  of_invalidated (Some (suc p)) = tt

  of_reconsidered : (o : Option ℕ) → IsMarking (outcome_of_reconsider r s o).1
  unfolding outcome_of_reconsider
  of_reconsidered None = tt
  of_reconsidered (Some p) = tt

  of_preferred : (o : Option ℕ) → IsMarking (outcome_of_precious r s o).1
  unfolding outcome_of_precious
  of_preferred None = tt
  of_preferred (Some p) = by_outcome IsMarking _ (mark_says s Done) (mark_says (settle r (with_call s p)) Done) tt tt

-- what a command comes to
abbrev pub Comes : Rules Block Id → State Block → Command → Outcome Block → Type 0
Comes r s c o =
    ((command_step r s c ≡ Some o) × (is_step o.1 ≡ true) × IsReplyTo c o.1)
    ⊎ ((o ≡ submit_says s DecodeFailed) × IsUndecodable c)

module _ (r : Rules Block Id) (s : State Block) where
  submission-steps : (bytes : List ℕ) (now : ℕ) (x : Reply) → IsSubmission x → (is_step x ≡ true) × IsReplyTo (command.Submit bytes now) x
  submission-steps bytes now (reply.Submit DecodeFailed) h = absurd h
  submission-steps bytes now (reply.Submit Accepted) h = (refl, tt)
  submission-steps bytes now (reply.Submit Inconclusive) h = (refl, tt)
  submission-steps bytes now (reply.Submit Duplicate) h = (refl, tt)
  submission-steps bytes now (reply.Submit DuplicateInvalid) h = (refl, tt)
  submission-steps bytes now (reply.Submit DuplicateInconclusive) h = (refl, tt)
  submission-steps bytes now (reply.Submit (Rejected reason)) h = (refl, tt)
  submission-steps bytes now (reply.Submit TreeFull) h = (refl, tt)
  submission-steps bytes now (reply.Mark value) h = absurd h

  marking-steps : (c : Command) (x : Reply) → ((v : _) → IsReplyTo c (reply.Mark v)) → IsMarking x → (is_step x ≡ true) × IsReplyTo c x
  marking-steps c (reply.Submit value) k h = absurd h
  marking-steps c (reply.Mark value) k h = (refl, k value)

  of_decoded : (bytes : List ℕ) (now : ℕ) (o : Option Block) → block_of_bytes bytes ≡ o
      → (let x = unwrap_or (submit_step r s now o) (submit_says s DecodeFailed) in
      ((submit_step r s now o ≡ Some x) × (is_step x.1 ≡ true) × IsReplyTo (command.Submit bytes now) x.1) ⊎ ((x ≡ submit_says s DecodeFailed) × (block_of_bytes bytes ≡ None)))
  unfolding submit_step
  of_decoded bytes now None e = inr (refl, e)
  of_decoded bytes now (Some b) e = let w = submission-steps bytes now (step r s (Submit now b)).1 (of_submit r s now b) in inl (refl, w.0, w.1)

  pub comes : (c : Command) → Comes r s c (outcome r s c)
  unfolding command_step step
  comes (command.Submit bytes now) = of_decoded bytes now (block_of_bytes bytes) refl
  comes (command.Invalidate id) = let w = marking-steps (command.Invalidate id) (step r s (Invalidate id)).1 (λ v. tt) (of_invalidated r s (place_of r.names s.blocks id)) in inl (refl, w.0, w.1)
  comes (command.Reconsider id) = let w = marking-steps (command.Reconsider id) (step r s (Reconsider id)).1 (λ v. tt) (of_reconsidered r s (place_of r.names s.blocks id)) in inl (refl, w.0, w.1)
  comes (command.Learn triple valid) = inl (refl, refl, tt)
  comes (command.Precious id) = let w = marking-steps (command.Precious id) (step r s (Precious id)).1 (λ v. tt) (of_preferred r s (place_of r.names s.blocks id)) in inl (refl, w.0, w.1)
