-- A submission never lowers the active block.
use Rattle.std.proofs.Common.{ℕ, ◌≤◌, Bool, true, false, cond, Option, Some, None, ◌∙◌, ap, inl, inr, arith}
use Rattle.std.proofs.Common.{List, leb}
use Rattle.std.specs.Option.{unwrap_or}
use Rattle.hash.specs.declared.id.Id.{Id}
use Rattle.txn.specs.declared.reason.Reason.{Reason}
use Rattle.block.specs.BlockOfBytes.{block_of_bytes}
use Rattle.block.specs.declared.block.Block.{Block}
use Rattle.tree.specs.Branches.{Kept, height, place_of}
use Rattle.tree.specs.Limits.{max_blocks}
use Rattle.tree.specs.State.{State, with_block}
use Rattle.tree.specs.laws.AddedBlock.{usable_there}
use Rattle.tree.specs.laws.Branches.{height_there}
use Rattle.tree.specs.laws.Ranks.{better-height}
use Rattle.model.specs.declared.command.Command.TheVariants as command
use Rattle.model.specs.declared.reply.SubmitReply.TheVariants.{TreeFull}
use Rattle.model.specs.Commands.{submit_step, command_step}
use Rattle.model.specs.Context.{first_fault}
use Rattle.model.specs.History.{state_left}
use Rattle.model.specs.Rules.{Rules}
use Rattle.model.specs.Settle.{active, settle}
use Rattle.model.specs.StateInvariant.{IsSettled}
use Rattle.model.specs.Step.{step}
use Rattle.model.specs.Submission.{kept_blocks, outcome_by_fault, outcome_of_submission, submit_says}
use Rattle.model.specs.laws.Actives.{active_is, active_kept, active_usable, active_valid, can_from}
use Rattle.model.specs.laws.AddedBlock.{valid_there}
use Rattle.model.specs.laws.SettledState.{active-settle}

module _ (r : Rules Block Id) (s : State Block) (sound : IsSettled r s) where
  -- the active block of a state is at least as high as that of s
  abbrev IsNoLower : State Block → Type 0
  IsNoLower t = height s.blocks (active r s) ≤ height t.blocks (active r t)

  module _ (b : Block) (p : ℕ) where
    new : Kept Block
    new = record { block = b; parent = p }

    more : State Block
    more = with_block s b p

    -- the active block of before could be active still
    added : height s.blocks (active r s) ≤ height more.blocks (active r more)
    unfolding new more
    added =
        let kept = active_kept r s sound.genesis in
        let genesis = usable_there s new 0 (omega arith) ∙ sound.genesis in
        let usable = usable_there s new (active r s) kept ∙ active_usable r s sound.genesis in
        let valid = valid_there r new s.blocks (active r s) kept ∙ active_valid r s sound.genesis in
        let same = height_there new s.blocks (active r s) kept in
        elim ((active_is r more genesis).tops (active r s) (omega arith) (can_from r more (active r s) usable valid)) [
          | inl e ↦ let h = ap (height more.blocks) e in omega arith
          | inr beats ↦ let h = better-height more (active r more) (active r s) beats in omega arith
        ]

    settled : IsNoLower (settle r more)
    unfolding new more settle
    settled =
        let genesis = usable_there s new 0 (omega arith) ∙ sound.genesis in
        let h = added in
        let e = ap (height more.blocks) (active-settle r more genesis) in
        omega arith

  judged : (b : Block) (o : Option Reason) → IsNoLower (outcome_by_fault r s b o).0
  unfolding outcome_by_fault more
  judged b (Some reason) = omega arith
  judged b None = settled b (unwrap_or (place_of r.names s.blocks (r.names.parent_of b)) 0)

  submitted : (now : ℕ) (b : Block) (o : Option ℕ) → IsNoLower (outcome_of_submission r s now b o).0
  unfolding outcome_of_submission
  submitted now b (Some p) = omega arith
  submitted now b None =
      elim (leb max_blocks (kept_blocks s)) as (λ (v : Bool). IsNoLower (cond v (submit_says s TreeFull) (outcome_by_fault r s b (first_fault r s now b))).0) [
        | true ↦ omega arith
        | false ↦ judged b (first_fault r s now b)
      ]

  pub submission : (bytes : List ℕ) (now : ℕ) → IsNoLower (state_left s (command_step r s (command.Submit bytes now)))
  unfolding command_step
  submission bytes now = of (block_of_bytes bytes)
    where
      of : (o : Option Block) → IsNoLower (state_left s (submit_step r s now o))
      of None = unfold submit_step in omega arith
      of (Some b) = unfold submit_step step in submitted now b (place_of r.names s.blocks (r.names.id_of b))
