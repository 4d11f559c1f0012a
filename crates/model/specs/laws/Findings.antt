-- What a command comes to, by what is found of its block.
use Rattle.std.proofs.Common.{◌≡◌, ℕ, zero, suc, ◌<◌, ◌≤◌, Bool, true, false, cond, not, ◌||◌, List, length, Option, Some, None, sym, refl, ap, ◌∙◌, arith}
use Rattle.std.specs.Option.{option_or}
use Rattle.std.proofs.lemmas.Bool.{eq-eqb, ne_eqb, and_parts, lt-ltb, le-ltb}
use Rattle.txn.specs.declared.reason.Reason.{Reason}
use Rattle.txn.specs.declared.reason.Reason.TheVariants.{ParentNotFound, ParentInvalid}
use Rattle.hash.specs.declared.id.Id.{Id}
use Rattle.block.specs.declared.block.Block.{Block}
use Rattle.signatures.specs.Triple.{Triples}
use Rattle.rules.specs.declared.params.Params.{Params}
use Rattle.tree.specs.Branches.{Blocks, has, branch, height, blocks_at, place_of}
use Rattle.tree.specs.State.{State, has_no_mark, with_mark, without_marks, with_call}
use Rattle.tree.specs.Names.{names}
use Rattle.tree.specs.laws.AddedBlock.{place-bound}
use Rattle.tree.specs.laws.Marks.{bad-flagged}
use Rattle.model.specs.declared.reply.SubmitReply.TheVariants.{Accepted, Inconclusive}
use Rattle.model.specs.declared.reply.MarkReply.TheVariants.{Done}
use Rattle.model.specs.Rules.{Rules}
use Rattle.model.specs.Valid.{fault, first_to_fail}
use Rattle.model.specs.Settle.{active, on_candidate, becomes_bad, becomes_seen, settle}
use Rattle.model.specs.Context.{fault_on, first_fault}
use Rattle.model.specs.Submission.{submit_says, reply_by_reason, answer_added, outcome_of_added}
use Rattle.model.specs.Step.{Invalidate, Reconsider, Precious, mark_says, outcome_of_invalidate, outcome_of_reconsider, outcome_of_precious, step}
use Rattle.model.specs.Regtest.{regtest}
use Rattle.model.specs.laws.SettledState.{active-settle, settle-blocks}

module _ (params : Params) (triples : Triples) (s : State Block) where
  abbrev r : Rules Block Id
  r = regtest params triples

  -- ---- marks

  module _ (i : Id) (p : ℕ) (place : place_of names s.blocks i ≡ Some p) (t u : State Block) where
    pub invalidate_done : 0 < p → t ≡ with_mark s p → u ≡ settle (regtest params triples) t → mark_says u Done ≡ step (regtest params triples) s (Invalidate i)
    unfolding step
    invalidate_done z e f =
        ap (λ (w : State Block). mark_says w Done) (f ∙ ap (settle (regtest params triples)) e) ∙ at p z ∙ sym (ap (outcome_of_invalidate (regtest params triples) s) place)
      where
        at : (q : ℕ) → 0 < q → mark_says (settle (regtest params triples) (with_mark s q)) Done ≡ outcome_of_invalidate (regtest params triples) s (Some q)
        at zero z = absurd (omega arith)
        at (suc q) z = unfold outcome_of_invalidate in refl

    pub reconsider_done : t ≡ without_marks s p → u ≡ settle (regtest params triples) t → mark_says u Done ≡ step (regtest params triples) s (Reconsider i)
    unfolding step outcome_of_reconsider
    reconsider_done e f = ap (λ (w : State Block). mark_says w Done) (f ∙ ap (settle (regtest params triples)) e) ∙ sym (ap (outcome_of_reconsider (regtest params triples) s) place)

    pub prefer_done : height s.blocks (active (regtest params triples) s) ≤ height s.blocks p → t ≡ with_call s p → u ≡ settle (regtest params triples) t → mark_says u Done ≡ step (regtest params triples) s (Precious i)
    unfolding step outcome_of_precious
    prefer_done l e f =
        ap (λ (w : State Block). mark_says w Done) (f ∙ ap (settle (regtest params triples)) e)
        ∙ ap (λ (b : Bool). cond b (mark_says s Done) (mark_says (settle (regtest params triples) (with_call s p)) Done)) (sym (le-ltb (height s.blocks p) (height s.blocks (active (regtest params triples) s)) l))
        ∙ sym (ap (outcome_of_precious (regtest params triples) s) place)

  pub prefer_lower : (i : Id) (p : ℕ) → place_of names s.blocks i ≡ Some p → height s.blocks p < height s.blocks (active (regtest params triples) s) → mark_says s Done ≡ step (regtest params triples) s (Precious i)
  unfolding step outcome_of_precious
  prefer_lower i p place l =
      ap (λ (b : Bool). cond b (mark_says s Done) (mark_says (settle (regtest params triples) (with_call s p)) Done)) (sym (lt-ltb (height s.blocks p) (height s.blocks (active (regtest params triples) s)) l))
      ∙ sym (ap (outcome_of_precious (regtest params triples) s) place)

  -- ---- faults before connection

  module _ (now : ℕ) (b : Block) where
    pub fault_alone : (reason : Reason) → (regtest params triples).alone_fault b ≡ Some reason → Some reason ≡ first_fault (regtest params triples) s now b
    unfolding first_fault
    fault_alone reason e = sym (ap (λ o. option_or o (fault_on (regtest params triples) s now b (place_of names s.blocks b.header.prev))) e)

    module _ (alone : (regtest params triples).alone_fault b ≡ None) where
      fault_next : fault_on (regtest params triples) s now b (place_of names s.blocks b.header.prev) ≡ first_fault (regtest params triples) s now b
      unfolding first_fault
      fault_next = sym (ap (λ o. option_or o (fault_on (regtest params triples) s now b (place_of names s.blocks b.header.prev))) alone)

      pub fault_orphan : place_of names s.blocks b.header.prev ≡ None → Some ParentNotFound ≡ first_fault (regtest params triples) s now b
      unfolding fault_on
      fault_orphan e = sym (ap (fault_on (regtest params triples) s now b) e) ∙ fault_next

      pub fault_invalid : (p : ℕ) → place_of names s.blocks b.header.prev ≡ Some p → has_no_mark s p ≡ false → Some ParentInvalid ≡ first_fault (regtest params triples) s now b
      unfolding fault_on
      fault_invalid p e u =
          ap (λ v. cond (not v) (Some ParentInvalid) ((regtest params triples).context_fault (blocks_at names s.blocks (branch s.blocks p)) now b)) (sym u)
          ∙ sym (ap (fault_on (regtest params triples) s now b) e) ∙ fault_next

      pub fault_context : (p : ℕ) (o : Option Reason) → place_of names s.blocks b.header.prev ≡ Some p → has_no_mark s p ≡ true → o ≡ (regtest params triples).context_fault (blocks_at names s.blocks (branch s.blocks p)) now b → o ≡ first_fault (regtest params triples) s now b
      unfolding fault_on
      fault_context p o e u f =
          f ∙ ap (λ v. cond (not v) (Some ParentInvalid) ((regtest params triples).context_fault (blocks_at names s.blocks (branch s.blocks p)) now b)) (sym u)
          ∙ sym (ap (fault_on (regtest params triples) s now b) e) ∙ fault_next
