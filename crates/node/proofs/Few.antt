-- A tree never has more blocks than its limit, so heights are small.
use Rattle.std.proofs.Common.{◌≡◌, ℕ, zero, suc, ◌<◌, ◌≤◌, Bool, true, false, cond, leb, ltb, Option, Some, None, refl, arith}
use Rattle.std.proofs.lemmas.Bool.{leb-false}
use Rattle.std.specs.Option.{unwrap_or}
use Rattle.hash.specs.declared.id.Id.{Id}
use Rattle.txn.specs.declared.reason.Reason.{Reason}
use Rattle.block.specs.declared.block.Block.{Block}
use Rattle.block.specs.BlockOfBytes.{block_of_bytes}
use Rattle.tree.specs.Branches.{height, place_of}
use Rattle.tree.specs.State.{State, without_marks, with_call}
use Rattle.tree.specs.Limits.{max_blocks}
use Rattle.tree.specs.laws.Parents.{height-place}
use Rattle.model.specs.declared.command.Command.{Command}
use Rattle.model.specs.declared.command.Command.TheVariants as command
use Rattle.model.specs.declared.reply.MarkReply.TheVariants.{Done}
use Rattle.model.specs.declared.reply.SubmitReply.TheVariants.{DecodeFailed, TreeFull}
use Rattle.model.specs.Rules.{Rules}
use Rattle.model.specs.Settle.{active, settle}
use Rattle.model.specs.Context.{first_fault}
use Rattle.model.specs.Submission.{submit_says, kept_blocks, outcome_by_fault, outcome_of_submission}
use Rattle.model.specs.Step.{mark_says, outcome_of_invalidate, outcome_of_reconsider, outcome_of_precious, step}
use Rattle.model.specs.Commands.{submit_step, command_step, outcome}
use Rattle.model.specs.StateInvariant.{IsSettled}
use Rattle.model.specs.laws.Actives.{active_kept}

-- so many blocks are kept at most
abbrev pub AreFew : State Block → Type 0
AreFew s = kept_blocks s ≤ max_blocks

module _ (r : Rules Block Id) (s : State Block) (few : AreFew s) where
  few-judged : (b : Block) (o : Option Reason) → suc (kept_blocks s) ≤ max_blocks → AreFew (outcome_by_fault r s b o).0
  unfolding outcome_by_fault settle
  few-judged b (Some reason) room = few
  few-judged b None room = room

  few-submitted : (now : ℕ) (b : Block) (o : Option ℕ) → AreFew (outcome_of_submission r s now b o).0
  unfolding outcome_of_submission
  few-submitted now b (Some p) = few
  few-submitted now b None = either (leb max_blocks (kept_blocks s)) refl
    where
      either : (v : Bool) → leb max_blocks (kept_blocks s) ≡ v → AreFew (cond v (submit_says s TreeFull) (outcome_by_fault r s b (first_fault r s now b))).0
      either true e = few
      either false e = let l = leb-false max_blocks (kept_blocks s) e in few-judged b (first_fault r s now b) (omega arith)

  few-invalidated : (o : Option ℕ) → AreFew (outcome_of_invalidate r s o).0
  unfolding outcome_of_invalidate settle
  few-invalidated None = few
  few-invalidated (Some zero) = few
  few-invalidated (Some (suc p)) = few

  few-reconsidered : (o : Option ℕ) → AreFew (outcome_of_reconsider r s o).0
  unfolding outcome_of_reconsider without_marks settle
  few-reconsidered None = few
  few-reconsidered (Some p) = few

  few-preferred : (o : Option ℕ) → AreFew (outcome_of_precious r s o).0
  unfolding outcome_of_precious settle
  few-preferred None = few
  few-preferred (Some p) =
      elim (ltb (height s.blocks p) (height s.blocks (active r s))) as (λ (v : Bool). AreFew (cond v (mark_says s Done) (mark_says (settle r (with_call s p)) Done)).0) [
        | true ↦ few
        | false ↦ few
      ]

  few-decoded : (now : ℕ) (o : Option Block) → AreFew (unwrap_or (submit_step r s now o) (submit_says s DecodeFailed)).0
  unfolding submit_step step
  few-decoded now None = few
  few-decoded now (Some b) = few-submitted now b (place_of r.names s.blocks (r.names.id_of b))

  pub few-outcome : (c : Command) → AreFew (outcome r s c).0
  unfolding command_step step
  few-outcome (command.Submit bytes now) = few-decoded now (block_of_bytes bytes)
  few-outcome (command.Invalidate id) = few-invalidated (place_of r.names s.blocks id)
  few-outcome (command.Reconsider id) = few-reconsidered (place_of r.names s.blocks id)
  few-outcome (command.Precious id) = few-preferred (place_of r.names s.blocks id)
  few-outcome (command.Learn triple valid) = few

  -- the active block's height is below the limit
  pub height-few : IsSettled r s → height s.blocks (active r s) < max_blocks
  height-few sound =
      let kept = active_kept r s sound.genesis in
      let low = height-place s.blocks (active r s) (active r s) (omega arith) kept in
      omega (arith, kept, low, few)
