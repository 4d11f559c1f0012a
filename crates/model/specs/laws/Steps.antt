-- Steps: which leave the state, that each leaves a sound one, and what the ordinary one does.
use Rattle.std.proofs.Common.{◌≡◌, ℕ, zero, suc, ◌<◌, ◌≤◌, Bool, true, false, cond, not, ◌||◌, eqb, leb, ltb, List, [], ◌∷◌, length, Option, None, Some, sym, refl, ap, ◌∙◌, arith}
use Rattle.std.specs.Option.{option_or, unwrap_or}
use Rattle.std.proofs.lemmas.Bool.{eq-eqb, ne_eqb, or_left, le-leb, lt-leb, lt-ltb, le-ltb}
use Rattle.txn.specs.declared.reason.Reason.{Reason}
use Rattle.txn.specs.declared.reason.Reason.TheVariants.{ParentInvalid}
use Rattle.tree.specs.Branches.{has, branch, places, on, height, blocks_at, place_of}
use Rattle.tree.specs.State.{State, opening, union_where, has_no_mark, beats, with_block, with_mark, without_marks, with_call}
use Rattle.tree.specs.Limits.{max_blocks}
use Rattle.tree.specs.laws.Sets.{has_here, has-joined, none_above}
use Rattle.tree.specs.laws.Branches.{on-bounds}
use Rattle.tree.specs.laws.Marks.{usable_gives, usable_from, usable-cleared}
use Rattle.tree.specs.laws.AddedBlock.{usable_there, place-bound}
use Rattle.model.specs.declared.reply.SubmitReply.TheVariants.{Accepted, Inconclusive, Rejected, TreeFull}
use Rattle.model.specs.declared.reply.MarkReply.TheVariants.{Done, NotFound, Genesis}
use Rattle.model.specs.Rules.{Rules}
use Rattle.model.specs.Valid.{fault, branch_connects}
use Rattle.model.specs.Settle.{active, settle}
use Rattle.model.specs.Context.{fault_on, first_fault}
use Rattle.model.specs.Submission.{Outcome, submit_says, reply_by_reason, kept_blocks, answer_known, answer_added, outcome_of_added, outcome_by_fault, outcome_of_submission}
use Rattle.model.specs.Step.{Request, Submit, Invalidate, Reconsider, Precious, mark_says, outcome_of_invalidate, outcome_of_reconsider, outcome_of_precious, step, state_after_requests}
use Rattle.model.specs.StateInvariant.{IsSettled}
use Rattle.model.specs.Faults.{IsNew}
use Rattle.model.specs.laws.Actives.{active_kept, valid-genesis}
use Rattle.model.specs.laws.SettledState.{bad_in-order, settle_twice, genesis-settle, active-settle, settled_where}
use Rattle.model.specs.laws.Ordinary.{fault_own, active-tip, settle-tip, active_tip-fails, settle_tip-fails, active-beside, settle-beside}
use Rattle.model.specs.laws.Precious.{usable-called, active-called, settle-called_active}

-- by a test of two numbers
if_true : {A : Type 0} (b : Bool) (x y : A) → b ≡ true → cond b x y ≡ x
if_true b x y e = ap (λ v. cond v x y) e

if_false : {A : Type 0} (b : Bool) (x y : A) → b ≡ false → cond b x y ≡ y
if_false b x y e = ap (λ v. cond v x y) e

module _ {B I : Type 0} (r : Rules B I) (s : State B) where
  -- ---- steps that leave the state

  pub step-known : (now : ℕ) (b : B) (p : ℕ) → place_of r.names s.blocks (r.names.id_of b) ≡ Some p → step r s (Submit now b) ≡ submit_says s (answer_known r s p)
  unfolding step outcome_of_submission
  step-known now b p e = ap (outcome_of_submission r s now b) e

  pub step-full : (now : ℕ) (b : B) → place_of r.names s.blocks (r.names.id_of b) ≡ None → max_blocks ≤ kept_blocks s → step r s (Submit now b) ≡ submit_says s TreeFull
  unfolding step outcome_of_submission
  step-full now b e h = ap (outcome_of_submission r s now b) e ∙ if_true (leb max_blocks (kept_blocks s)) _ _ (le-leb max_blocks (kept_blocks s) h)

  step-judged : (now : ℕ) (b : B) → place_of r.names s.blocks (r.names.id_of b) ≡ None → kept_blocks s < max_blocks → step r s (Submit now b) ≡ outcome_by_fault r s b (first_fault r s now b)
  unfolding step outcome_of_submission
  step-judged now b e h = ap (outcome_of_submission r s now b) e ∙ if_false (leb max_blocks (kept_blocks s)) _ _ (lt-leb max_blocks (kept_blocks s) h)

  pub step-faulty : (now : ℕ) (b : B) (reason : Reason) → place_of r.names s.blocks (r.names.id_of b) ≡ None → kept_blocks s < max_blocks → first_fault r s now b ≡ Some reason → step r s (Submit now b) ≡ submit_says s (Rejected reason)
  unfolding outcome_by_fault
  step-faulty now b reason e h f = step-judged now b e h ∙ ap (outcome_by_fault r s b) f

  pub step-genesis : (i : I) → place_of r.names s.blocks i ≡ Some 0 → step r s (Invalidate i) ≡ mark_says s Genesis
  unfolding step outcome_of_invalidate
  step-genesis i e = ap (outcome_of_invalidate r s) e

  pub step_not-found : (i : I) → place_of r.names s.blocks i ≡ None → (step r s (Invalidate i) ≡ mark_says s NotFound) × (step r s (Reconsider i) ≡ mark_says s NotFound) × (step r s (Precious i) ≡ mark_says s NotFound)
  unfolding step outcome_of_invalidate outcome_of_reconsider outcome_of_precious
  step_not-found i e = (ap (outcome_of_invalidate r s) e, ap (outcome_of_reconsider r s) e, ap (outcome_of_precious r s) e)

  -- ---- each step leaves a sound state

  settled_sound : (t : State B) → has_no_mark t 0 ≡ true → IsSettled r (settle r t)
  settled_sound t z = record { genesis = genesis-settle r t z; settled = settle_twice r t z }

  module _ (sound : IsSettled r s) where
    only_genesis : (x : ℕ) → on s.blocks 0 x ≡ true → x ≡ 0
    only_genesis x o = let b = (on-bounds s.blocks 0 x o).0 in omega arith

    marked_genesis : (p : ℕ) → has_no_mark (with_mark s (suc p)) 0 ≡ true
    marked_genesis p =
        usable_from (with_mark s (suc p)) 0 (λ x o.
        let e = only_genesis x o in
        has-joined (length s.blocks) s.bad (λ x. eqb x (suc p)) x (omega arith)
        ∙ ap (λ (b : Bool). b || eqb x (suc p)) (usable_gives s 0 x sound.genesis o) ∙ ne_eqb x (suc p) (omega arith))

    judged_sound : (b : B) (o : Option Reason) → IsSettled r (outcome_by_fault r s b o).0
    unfolding outcome_by_fault
    judged_sound b (Some reason) = sound
    judged_sound b None =
        let p = unwrap_or (place_of r.names s.blocks (r.names.parent_of b)) 0 in
        settled_sound (with_block s b p) (usable_there s (record { block = b; parent = p }) 0 (omega arith) ∙ sound.genesis)

    submitted_sound : (now : ℕ) (b : B) (o : Option ℕ) → IsSettled r (outcome_of_submission r s now b o).0
    unfolding outcome_of_submission
    submitted_sound now b (Some p) = sound
    submitted_sound now b None =
        elim (leb max_blocks (kept_blocks s)) as (λ (v : Bool). IsSettled r (cond v (submit_says s TreeFull) (outcome_by_fault r s b (first_fault r s now b))).0) [
          | true ↦ sound
          | false ↦ judged_sound b (first_fault r s now b)
        ]

    invalidated_sound : (o : Option ℕ) → IsSettled r (outcome_of_invalidate r s o).0
    unfolding outcome_of_invalidate
    invalidated_sound None = sound
    invalidated_sound (Some zero) = sound
    invalidated_sound (Some (suc p)) = settled_sound (with_mark s (suc p)) (marked_genesis p)

    reconsidered_sound : (o : Option ℕ) → IsSettled r (outcome_of_reconsider r s o).0
    unfolding outcome_of_reconsider
    reconsidered_sound None = sound
    reconsidered_sound (Some p) = settled_sound (without_marks s p) (usable-cleared s p 0 sound.genesis)

    preferred_sound : (o : Option ℕ) → IsSettled r (outcome_of_precious r s o).0
    unfolding outcome_of_precious
    preferred_sound None = sound
    preferred_sound (Some p) =
        elim (ltb (height s.blocks p) (height s.blocks (active r s))) as (λ (v : Bool). IsSettled r (cond v (mark_says s Done) (mark_says (settle r (with_call s p)) Done)).0) [
          | true ↦ sound
          | false ↦ settled_sound (with_call s p) (usable-called r s p 0 ∙ sound.genesis)
        ]

    pub step_sound : (c : Request B I) → IsSettled r (step r s c).0
    unfolding step
    step_sound (Submit now b) = submitted_sound now b (place_of r.names s.blocks (r.names.id_of b))
    step_sound (Invalidate i) = invalidated_sound (place_of r.names s.blocks i)
    step_sound (Reconsider i) = reconsidered_sound (place_of r.names s.blocks i)
    step_sound (Precious i) = preferred_sound (place_of r.names s.blocks i)

  -- ---- the parent of a block without a fault is kept and usable

  both_none : (o q : Option Reason) → option_or o q ≡ None → (o ≡ None) × (q ≡ None)
  both_none None q e = (refl, e)
  both_none (Some x) q e = absurd (cc)

  on_parent : (now : ℕ) (b : B) (o : Option ℕ) → fault_on r s now b o ≡ None → (p : ℕ) × (o ≡ Some p) × (has_no_mark s p ≡ true) × (r.context_fault (blocks_at r.names s.blocks (branch s.blocks p)) now b ≡ None)
  unfolding fault_on
  on_parent now b None e = absurd (cc)
  on_parent now b (Some p) e =
      elim (has_no_mark s p) as (λ v. has_no_mark s p ≡ v → cond (not v) (Some ParentInvalid) (r.context_fault (blocks_at r.names s.blocks (branch s.blocks p)) now b) ≡ None → (q : ℕ) × (Some p ≡ Some q) × (has_no_mark s q ≡ true) × (r.context_fault (blocks_at r.names s.blocks (branch s.blocks q)) now b ≡ None)) [
        | true ↦ λ u f. (p, refl, u, f)
        | false ↦ λ u f. absurd (cc)
      ] refl e

  pub faultless-alone : (now : ℕ) (b : B) → first_fault r s now b ≡ None → r.alone_fault b ≡ None
  unfolding first_fault
  faultless-alone now b e = (both_none (r.alone_fault b) (fault_on r s now b (place_of r.names s.blocks (r.names.parent_of b))) e).0

  pub faultless-parent : (now : ℕ) (b : B) → first_fault r s now b ≡ None → (p : ℕ) × (place_of r.names s.blocks (r.names.parent_of b) ≡ Some p) × (has_no_mark s p ≡ true) × (r.context_fault (blocks_at r.names s.blocks (branch s.blocks p)) now b ≡ None)
  unfolding first_fault
  faultless-parent now b e =
      on_parent now b (place_of r.names s.blocks (r.names.parent_of b)) (both_none (r.alone_fault b) (fault_on r s now b (place_of r.names s.blocks (r.names.parent_of b))) e).1

  -- ---- the ordinary step

  -- the block is added, and the state settled
  pub step-added : (now : ℕ) (b : B) (p : ℕ) → IsNew r s now b p → step r s (Submit now b) ≡ outcome_of_added r (settle r (with_block s b p))
  unfolding outcome_by_fault
  step-added now b p h =
      step-judged now b h.unknown h.room ∙ ap (outcome_by_fault r s b) h.faultless
      ∙ ap (λ (o : Option ℕ). outcome_of_added r (settle r (with_block s b (unwrap_or o 0)))) h.parent

  answer-active : (t : State B) (p : ℕ) → p ≡ active r t → answer_added r t p ≡ Accepted
  unfolding answer_added
  answer-active t p e = if_true (eqb p (active r t)) _ _ (eq-eqb p (active r t) e)

  answer-other : (t : State B) (p : ℕ) (bad : Bool) → (p ≡ active r t → ⊥) → has t.bad p ≡ bad → answer_added r t p ≡ cond bad (reply_by_reason (fault r t.blocks p)) Inconclusive
  unfolding answer_added
  answer-other t p bad n e =
      if_false (eqb p (active r t)) _ _ (ne_eqb p (active r t) n)
      ∙ ap (λ b. cond b (reply_by_reason (fault r t.blocks p)) Inconclusive) e

  module _ (sound : IsSettled r s) (now : ℕ) (b : B) (p : ℕ) (is : IsNew r s now b p) where
    abbrev new : ℕ
    new = suc (length s.blocks)

    abbrev t : State B
    t = with_block s b p

    genesis_there : has_no_mark t 0 ≡ true
    genesis_there = usable_there s (record { block = b; parent = p }) 0 (omega arith) ∙ sound.genesis

    same_active : (q : State B) (a : ℕ) → settle r t ≡ q → active r t ≡ a → a ≡ active r q
    same_active q a e f = sym f ∙ sym (active-settle r t genesis_there) ∙ ap (active r) e

    not_new : (q : State B) → settle r t ≡ q → active r t ≡ active r s → new ≡ active r q → ⊥
    not_new q e f g =
        let l = active_kept r s sound.genesis in
        let w = same_active q (active r s) e f in
        omega arith

    abbrev own_fault : Option Reason
    own_fault = r.connect_fault (blocks_at r.names s.blocks (branch s.blocks (active r s))) b

    -- on the active block, without a fault: it is active and seen
    pub step-tip : p ≡ active r s → own_fault ≡ None → step r s (Submit now b) ≡ submit_says (record t { seen = new ∷ s.seen }) Accepted
    step-tip tip good =
        let e = settle-tip r s sound b p tip good in
        step-added now b p is ∙ ap (outcome_of_added r) e
        ∙ ap (submit_says (record t { seen = new ∷ s.seen })) (answer-active (record t { seen = new ∷ s.seen }) new (same_active (record t { seen = new ∷ s.seen }) new e (active-tip r s sound b p tip good)))

    -- with one: it is marked
    pub step_tip-fails : p ≡ active r s → (reason : Reason) → own_fault ≡ Some reason → step r s (Submit now b) ≡ submit_says (record t { bad = new ∷ s.bad }) (Rejected reason)
    step_tip-fails tip reason bad =
        let e = settle_tip-fails r s sound b p tip reason bad in
        step-added now b p is ∙ ap (outcome_of_added r) e
        ∙ ap (submit_says (record t { bad = new ∷ s.bad }))
        (answer-other (record t { bad = new ∷ s.bad }) new true (not_new (record t { bad = new ∷ s.bad }) e (active_tip-fails r s sound b p tip reason bad)) (has_here new s.bad)
        ∙ ap reply_by_reason (fault_own r s sound b p tip ∙ bad))

    -- not better than the active block: it is there, and nothing else changes
    pub step-beside : beats t new (active r s) ≡ false → step r s (Submit now b) ≡ submit_says t Inconclusive
    step-beside lower =
        let e = settle-beside r s sound b p lower in
        step-added now b p is ∙ ap (outcome_of_added r) e
        ∙ ap (submit_says t) (answer-other t new false (not_new t e (active-beside r s sound b p lower)) (none_above (length s.blocks) s.bad (bad_in-order r s sound) new (omega arith)))

  module _ (i : I) (p : ℕ) (kept : place_of r.names s.blocks i ≡ Some p) where
    -- a call for a block that is lower than the active one: nothing changes
    pub step-precious_lower : height s.blocks p < height s.blocks (active r s) → step r s (Precious i) ≡ mark_says s Done
    unfolding step outcome_of_precious
    step-precious_lower l = ap (outcome_of_precious r s) kept ∙ if_true (ltb (height s.blocks p) (height s.blocks (active r s))) _ _ (lt-ltb (height s.blocks p) (height s.blocks (active r s)) l)

    step-called : height s.blocks (active r s) ≤ height s.blocks p → step r s (Precious i) ≡ mark_says (settle r (with_call s p)) Done
    unfolding step outcome_of_precious
    step-called l = ap (outcome_of_precious r s) kept ∙ if_false (ltb (height s.blocks p) (height s.blocks (active r s))) _ _ (le-ltb (height s.blocks p) (height s.blocks (active r s)) l)

    module _ (sound : IsSettled r s) where
      -- for the active block: nothing changes but its rank
      pub step_precious-active : p ≡ active r s → step r s (Precious i) ≡ mark_says (with_call s p) Done
      step_precious-active is =
          step-called (let w = ap (height s.blocks) is in omega arith) ∙ ap (λ (q : State B). mark_says q Done) (settle-called_active r s p sound is)

      -- for another that is usable and valid, and not lower: it is active
      pub active_precious : has_no_mark s p ≡ true → branch_connects r s.blocks p ≡ true → height s.blocks (active r s) ≤ height s.blocks p → active r (step r s (Precious i)).0 ≡ p
      active_precious u v l =
          ap (λ (q : Outcome B). active r q.0) (step-called l)
          ∙ active-settle r (with_call s p) (usable-called r s p 0 ∙ sound.genesis)
          ∙ active-called r s p sound (place-bound r.names s.blocks i p kept) u v l

module _ {B I : Type 0} (r : Rules B I) where
  -- genesis alone is sound
  pub opening_sound : IsSettled r opening
  unfolding has_no_mark branch union_where Rattle.tree.specs.Branches.down_from
  opening_sound = record {
    genesis = refl;
    settled = settled_where r opening 0 (valid-genesis r []) (λ d l h. omega arith) (λ x o. seen x (on-bounds {B = B} [] 0 x o).0) refl refl;
  }
    where
      seen : (x : ℕ) → x ≤ 0 → has (0 ∷ []) x ≡ true
      seen x h = or_left (eqb 0 x) false (eq-eqb 0 x (omega arith))

  -- and so is each state that commands reach
  pub after_sound : (s : State B) (cs : List (Request B I)) → IsSettled r s → IsSettled r (state_after_requests r s cs)
  after_sound s [] sound = sound
  after_sound s (c ∷ cs) sound = after_sound (step r s c).0 cs (step_sound r s sound c)
