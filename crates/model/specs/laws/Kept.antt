-- What holds of each kept block: no fault by itself, an id of its own, and the parent that its header names.
use Rattle.std.proofs.Common.{◌≡◌, ℕ, zero, suc, ◌<◌, ◌≤◌, Bool, true, false, cond, leb, ltb, List, [], ◌∷◌, length, Option, None, Some, sym, refl, ap, ◌∙◌, subst, inl, inr, arith}
use Rattle.std.specs.Option.{unwrap_or}
use Rattle.std.proofs.lemmas.Bool.{cases_eq, cases_order, eq-eqb, ne_eqb}
use Rattle.txn.specs.declared.reason.Reason.{Reason}
use Rattle.tree.specs.Branches.{Blocks, height, block_at, id_at, place_of}
use Rattle.tree.specs.State.{State, without_marks, with_call}
use Rattle.tree.specs.Limits.{max_blocks}
use Rattle.tree.specs.laws.Sets.{clash}
use Rattle.tree.specs.laws.AddedBlock.{id_here, id_there}
use Rattle.model.specs.declared.reply.SubmitReply.TheVariants.{TreeFull}
use Rattle.model.specs.declared.reply.MarkReply.TheVariants.{Done}
use Rattle.model.specs.Rules.{Rules}
use Rattle.model.specs.Settle.{active, settle}
use Rattle.model.specs.Context.{first_fault}
use Rattle.model.specs.Submission.{submit_says, kept_blocks, outcome_by_fault, outcome_of_submission}
use Rattle.model.specs.Step.{Request, Submit, Invalidate, Reconsider, Precious, mark_says, outcome_of_invalidate, outcome_of_reconsider, outcome_of_precious, step, state_after_requests}
use Rattle.model.specs.StateInvariant.{AllKept}
use Rattle.model.specs.Faults.{IdsAreKeptOnce}
use Rattle.model.specs.laws.Steps.{faultless-alone, faultless-parent}

kept_or-not : (p : ℕ) → ◌≡◌ {A = Option ℕ} (Some p) None → ⊥
kept_or-not p e = cc

module _ {B I : Type 0} (r : Rules B I) where
  -- a block by its place has no fault by itself
  pub alone-at : (t : Blocks B) (p : ℕ) → AllKept r t → 0 < p → p ≤ length t → r.alone_fault (block_at r.names t p) ≡ None
  unfolding block_at
  alone-at [] p k z h = absurd (omega arith)
  alone-at (k ∷ older) p all z h =
      elim (cases_eq (suc (length older)) p) [
        | inl e ↦ ap (λ b. r.alone_fault (cond b k.block (block_at r.names older p))) (eq-eqb (suc (length older)) p e) ∙ all.0.alone
        | inr n ↦ ap (λ b. r.alone_fault (cond b k.block (block_at r.names older p))) (ne_eqb (suc (length older)) p n) ∙ alone-at older p all.1 z (omega arith)
      ]

  -- ---- each step keeps it

  module _ (s : State B) (all : AllKept r s.blocks) where
    judged_kept : (now : ℕ) (b : B) (o : Option Reason) → place_of r.names s.blocks (r.names.id_of b) ≡ None → first_fault r s now b ≡ o → AllKept r (outcome_by_fault r s b o).0.blocks
    unfolding outcome_by_fault settle
    judged_kept now b None u e =
        let p = faultless-parent r s now b e in (
          record {
            alone = faultless-alone r s now b e;
            unknown = u;
            parent = p.1 ∙ ap (λ (o : Option ℕ). Some (unwrap_or o 0)) (sym p.1);
          },
          all,
        )
    judged_kept now b (Some reason) u e = all

    submitted_kept : (now : ℕ) (b : B) (o : Option ℕ) → place_of r.names s.blocks (r.names.id_of b) ≡ o → AllKept r (outcome_of_submission r s now b o).0.blocks
    unfolding outcome_of_submission
    submitted_kept now b (Some p) u = all
    submitted_kept now b None u =
        elim (leb max_blocks (kept_blocks s)) as (λ (v : Bool). AllKept r (cond v (submit_says s TreeFull) (outcome_by_fault r s b (first_fault r s now b))).0.blocks) [
          | true ↦ all
          | false ↦ judged_kept now b (first_fault r s now b) u refl
        ]

    invalidated_kept : (o : Option ℕ) → AllKept r (outcome_of_invalidate r s o).0.blocks
    unfolding outcome_of_invalidate settle
    invalidated_kept None = all
    invalidated_kept (Some zero) = all
    invalidated_kept (Some (suc p)) = all

    reconsidered_kept : (o : Option ℕ) → AllKept r (outcome_of_reconsider r s o).0.blocks
    unfolding outcome_of_reconsider without_marks settle
    reconsidered_kept None = all
    reconsidered_kept (Some p) = all

    preferred_kept : (o : Option ℕ) → AllKept r (outcome_of_precious r s o).0.blocks
    unfolding outcome_of_precious settle
    preferred_kept None = all
    preferred_kept (Some p) =
        elim (ltb (height s.blocks p) (height s.blocks (active r s))) as (λ (v : Bool). AllKept r (cond v (mark_says s Done) (mark_says (settle r (with_call s p)) Done)).0.blocks) [
          | true ↦ all
          | false ↦ all
        ]

    pub step_kept : (c : Request B I) → AllKept r (step r s c).0.blocks
    unfolding step
    step_kept (Submit now b) = submitted_kept now b (place_of r.names s.blocks (r.names.id_of b)) refl
    step_kept (Invalidate i) = invalidated_kept (place_of r.names s.blocks i)
    step_kept (Reconsider i) = reconsidered_kept (place_of r.names s.blocks i)
    step_kept (Precious i) = preferred_kept (place_of r.names s.blocks i)

  pub after_kept : (s : State B) (cs : List (Request B I)) → AllKept r s.blocks → AllKept r (state_after_requests r s cs).blocks
  after_kept s [] all = all
  after_kept s (c ∷ cs) all = after_kept (step r s c).0 cs (step_kept s all c)

  -- ---- ids are kept once

  -- an id that isn't kept is that of no place
  none_kept : (t : Blocks B) (i : I) (p : ℕ) → place_of r.names t i ≡ None → p ≤ length t → r.names.same_id (id_at r.names t p) i ≡ false
  unfolding place_of id_at
  none_kept [] i p e h =
      elim (r.names.same_id r.names.genesis_id i) as (λ b. cond {A = Option ℕ} b (Some 0) None ≡ None → b ≡ false) [
        | true ↦ λ e. absurd (kept_or-not 0 e)
        | false ↦ λ e. refl
      ] e
  none_kept (k ∷ older) i p e h =
      elim (r.names.same_id (r.names.id_of k.block) i) as (λ b. r.names.same_id (r.names.id_of k.block) i ≡ b → cond b (Some (suc (length older))) (place_of r.names older i) ≡ None → r.names.same_id (id_at r.names (k ∷ older) p) i ≡ false) [
        | true ↦ λ q e. absurd (kept_or-not (suc (length older)) e)
        | false ↦ λ q e. elim (cases_eq (suc (length older)) p) [
          | inl w ↦ ap (λ b. r.names.same_id (cond b (r.names.id_of k.block) (id_at r.names older p)) i) (eq-eqb (suc (length older)) p w) ∙ q
          | inr w ↦ ap (λ b. r.names.same_id (cond b (r.names.id_of k.block) (id_at r.names older p)) i) (ne_eqb (suc (length older)) p w) ∙ none_kept older i p e (omega arith)
        ]
      ] refl e

  module _ (same : (i : I) → r.names.same_id i i ≡ true) where
    newest_alone : (t : Blocks B) (p q : ℕ) → AllKept r t → p < q → q ≤ length t → id_at r.names t p ≡ id_at r.names t q → ⊥
    newest_alone [] p q all l h e = omega arith
    newest_alone (k ∷ older) p q all l h e =
        elim (cases_eq (suc (length older)) q) [
          | inl w ↦
              let here : id_at r.names (k ∷ older) q ≡ r.names.id_of k.block = ap (id_at r.names (k ∷ older)) (sym w) ∙ id_here r.names k older in
              let there : id_at r.names older p ≡ r.names.id_of k.block = sym (id_there r.names k older p (omega arith)) ∙ e ∙ here in
              clash (r.names.same_id (id_at r.names older p) (r.names.id_of k.block))
              (ap (λ (i : I). r.names.same_id i (r.names.id_of k.block)) there ∙ same (r.names.id_of k.block))
              (none_kept older (r.names.id_of k.block) p all.0.unknown (omega arith))
          | inr w ↦ newest_alone older p q all.1 l (omega arith) (sym (id_there r.names k older p (omega arith)) ∙ e ∙ id_there r.names k older q (omega arith))
        ]

    pub ids_once : (t : Blocks B) → AllKept r t → IdsAreKeptOnce r t
    ids_once t all p q h g e =
        elim (cases_order p q) [
          | inl w ↦ w
          | inr w ↦ elim w [
            | inl l ↦ absurd (newest_alone t p q all l g e)
            | inr l ↦ absurd (newest_alone t q p all l h (sym e))
          ]
        ]
