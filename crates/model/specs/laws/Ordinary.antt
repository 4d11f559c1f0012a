-- The ordinary step: what a new block changes, without a look at the others.
use Rattle.std.proofs.Common.{◌≡◌, ℕ, suc, ◌≤◌, true, false, ◌||◌, eqb, List, ◌∷◌, length, sym, refl, ap, ◌∙◌, subst, inl, inr, ◌⊎◌, arith, Option, None, Some}
use Rattle.std.specs.Option.{is_none}
use Rattle.std.specs.List.{list_all}
use Rattle.std.proofs.lemmas.Bool.{eqb-true, cases_eq, and_parts, and_from, or_cases, or_right, not_from_false, false_from_ne_true}
use Rattle.txn.specs.declared.reason.Reason.{Reason}
use Rattle.tree.specs.Branches.{Kept, branch, places, on, height, blocks_at}
use Rattle.tree.specs.State.{State, has_no_mark, beats, with_block, union_where}
use Rattle.tree.specs.Sound.{IsBest}
use Rattle.tree.specs.laws.Sets.{clash, all_from, none_above, joined_agree, joined_more, joined_new, joined_within}
use Rattle.tree.specs.laws.Branches.{on-bounds, on-itself, on_there, on_here, before_here, height_there, height_here}
use Rattle.tree.specs.laws.Ranks.{better_or, better_from, better-height}
use Rattle.tree.specs.laws.AddedBlock.{better_there, usable_there, usable_new}
use Rattle.model.specs.Rules.{Rules}
use Rattle.model.specs.Valid.{fault, connects, branch_connects, first_to_fail}
use Rattle.model.specs.Settle.{active, is_candidate, settle}
use Rattle.model.specs.Try.{fails_on, passes_on, state_after_try}
use Rattle.model.specs.StateInvariant.{IsSettled}
use Rattle.model.specs.laws.Actives.{active_is, active_only, active_kept, active_usable, active_valid, can_from, can_gives}
use Rattle.model.specs.laws.Candidates.{valid_gives, valid_from, never_fails, candidate_gives, candidate_from}
use Rattle.model.specs.laws.Tries.{settle-one, settle-best, active-best, best-candidate}
use Rattle.model.specs.laws.SettledState.{bad_in-order, seen_in-order, one_candidate, best_usable, active_seen, settled_where}
use Rattle.model.specs.laws.AddedBlock.{fault_new, connects_there, valid_there, first_there}

module _ {B I : Type 0} (r : Rules B I) (s : State B) (sound : IsSettled r s) (b : B) (p : ℕ) where
  abbrev k : Kept B
  k = record { block = b; parent = p }

  abbrev n : ℕ
  n = length s.blocks

  abbrev new : ℕ
  new = suc (length s.blocks)

  abbrev t : State B
  t = with_block s b p

  abbrev a : ℕ
  a = active r s

  a_kept : a ≤ n
  a_kept = active_kept r s sound.genesis

  a_valid : branch_connects r t.blocks a ≡ true
  a_valid = valid_there r k s.blocks a a_kept ∙ active_valid r s sound.genesis

  genesis_there : has_no_mark t 0 ≡ true
  genesis_there = usable_there s k 0 (omega arith) ∙ sound.genesis

  can_there : (d : ℕ) → d ≤ n → has_no_mark t d ≡ true → branch_connects r t.blocks d ≡ true → (d ≡ a) ⊎ (beats t a d ≡ true)
  can_there d l u v =
      elim ((active_is r s sound.genesis).tops d l (can_from r s d (sym (usable_there s k d l) ∙ u) (sym (valid_there r k s.blocks d l) ∙ v))) [
        | inl e ↦ inl e
        | inr e ↦ inr (better_there s k a d a_kept l ∙ e)
      ]

  -- the active block stays, if the new one isn't both valid and better
  stays : (has_no_mark t new ≡ true → branch_connects r t.blocks new ≡ true → beats t a new ≡ true) → active r t ≡ a
  stays f =
      active_only r t a (record {
        kept = (let l = a_kept in omega arith);
        can = can_from r t a (usable_there s k a a_kept ∙ active_usable r s sound.genesis) a_valid;
        tops = λ d l e.
            let q = can_gives r t d e in
            elim (cases_eq d new) [
              | inl w ↦ inr (subst (λ (z : ℕ). beats t a z ≡ true) (sym w) (f (subst (λ (z : ℕ). has_no_mark t z ≡ true) w q.0) (subst (λ (z : ℕ). branch_connects r t.blocks z ≡ true) w q.1)))
              | inr w ↦ can_there d (omega arith) q.0 q.1
            ];
      })

  -- of the blocks of before it is still the one candidate
  old_candidate : active r t ≡ a → (d : ℕ) → d ≤ n → is_candidate r t d ≡ true → d ≡ a
  old_candidate e d l h =
      let q = candidate_gives r t d h in
      one_candidate r s sound d l (candidate_from r s d (sym (usable_there s k d l) ∙ q.0) (elim q.1 [
        | inl w ↦ inl (w ∙ e)
        | inr w ↦ inr (sym (better_there s k d a l a_kept) ∙ subst (λ (z : ℕ). beats t d z ≡ true) e w)
      ]))

  on_old : (d x : ℕ) → d ≤ n → on t.blocks d x ≡ on s.blocks d x
  on_old d x l = on_there k s.blocks d x (omega arith)

  -- a block that isn't better than the active one changes nothing but that it is there
  module _ (lower : beats t new a ≡ false) where
    beside_better : beats t a new ≡ true
    beside_better = elim (better_or t new a (let l = a_kept in omega arith)) [ inl e ↦ absurd (clash _ e lower) | inr e ↦ e ]

    pub active-beside : active r t ≡ a
    active-beside = stays (λ u v. beside_better)

    pub settle-beside : settle r t ≡ t
    settle-beside =
        settled_where r t a a_valid
        (λ d l h. elim (cases_eq d new) [
          | inl e ↦ absurd (elim (candidate_gives r t d h).1 [
            | inl w ↦ let m = w ∙ active-beside in let g = a_kept in omega arith
            | inr w ↦ clash _ (subst (λ (z : ℕ). beats t z a ≡ true) e (subst (λ (z : ℕ). beats t d z ≡ true) active-beside w)) lower
          ])
          | inr e ↦ old_candidate active-beside d (omega arith) h
        ])
        (λ x o. active_seen r s sound x (sym (on_old a x a_kept) ∙ o))
        (joined_more n s.bad (bad_in-order r s sound))
        (joined_more n s.seen (seen_in-order r s sound))

  -- a block on the active one
  module _ (tip : p ≡ a) where
    p_kept : p ≤ n
    p_kept = let l = a_kept in omega arith

    new_usable : has_no_mark t new ≡ true
    new_usable = usable_new s k (none_above n s.bad (bad_in-order r s sound) new (omega arith)) ∙ subst (λ (z : ℕ). has_no_mark s z ≡ true) (sym tip) (active_usable r s sound.genesis)

    higher : (d : ℕ) → d ≤ n → (d ≡ a) ⊎ (beats s a d ≡ true) → beats t new d ≡ true
    higher d l h =
        let up = height_here k s.blocks p_kept in
        let same = height_there k s.blocks d l in
        let q = ap (height s.blocks) tip in
        let under : height s.blocks d ≤ height s.blocks a = elim h [
          | inl e ↦ let w = ap (height s.blocks) e in omega arith
          | inr e ↦ better-height s a d e
        ] in
        better_from t new d (inl (omega arith))

    on_new : (x : ℕ) → on t.blocks new x ≡ (eqb new x || on s.blocks a x)
    on_new x = on_here k s.blocks new x refl ∙ ap (λ (z : ℕ). eqb new x || on s.blocks z x) tip

    on_cases : (x : ℕ) → on t.blocks new x ≡ true → (new ≡ x) ⊎ (on s.blocks a x ≡ true)
    on_cases x o = elim (or_cases (eqb new x) (on s.blocks a x) (sym (on_new x) ∙ o)) [ inl e ↦ inl (eqb-true new x e) | inr e ↦ inr e ]

    -- is the best usable one
    pub best-tip : IsBest t (has_no_mark t) new new
    best-tip = record {
      kept = omega arith;
      can = new_usable;
      tops = λ d l u. elim (cases_eq d new) [
        | inl e ↦ inl e
        | inr e ↦ let m : d ≤ n = omega arith in inr (higher d m ((best_usable r s sound).tops d m (sym (usable_there s k d m) ∙ u)))
      ];
    }

    abbrev own_fault : Option Reason
    own_fault = r.connect_fault (blocks_at r.names s.blocks (branch s.blocks a)) b

    pub fault_own : fault r t.blocks new ≡ own_fault
    fault_own = fault_new r k s.blocks p_kept ∙ ap (λ (z : ℕ). r.connect_fault (blocks_at r.names s.blocks (branch s.blocks z)) b) tip

    connects_own : (o : Option Reason) → own_fault ≡ o → connects r t.blocks new ≡ is_none o
    unfolding connects
    connects_own o e = ap (λ (q : Option Reason). is_none q) (fault_own ∙ e)

    old_connects : (x : ℕ) → on s.blocks a x ≡ true → connects r t.blocks x ≡ true
    old_connects x o = connects_there r k s.blocks x (on-bounds s.blocks a x o).1 ∙ valid_gives r s.blocks a x (active_valid r s sound.genesis) o

    -- where it connects, it is active and seen, and nothing else changes
    module _ (good : own_fault ≡ None) where
      new_valid : branch_connects r t.blocks new ≡ true
      new_valid = valid_from r t.blocks new (λ x o. elim (on_cases x o) [
        | inl e ↦ subst (λ (z : ℕ). connects r t.blocks z ≡ true) e (connects_own None good)
        | inr e ↦ old_connects x e
      ])

      pub active-tip : active r t ≡ new
      active-tip = active-best r t new genesis_there best-tip new_valid

      pub settle-tip : settle r t ≡ record t { seen = new ∷ s.seen }
      unfolding state_after_try fails_on passes_on
      settle-tip =
          settle-best r t new genesis_there best-tip new_valid
          ∙ ap (λ (l : List ℕ). record t { bad = l; seen = union_where (places t.blocks) s.seen (passes_on r t.blocks new) })
          (joined_agree new s.bad (fails_on r t.blocks new) (λ x. false) (λ x l. false_from_ne_true _ (λ h.
          let q = and_parts (first_to_fail r t.blocks x) (on t.blocks new x) h in never_fails r t.blocks new x new_valid q.1 q.0))
          ∙ joined_more n s.bad (bad_in-order r s sound))
          ∙ ap (λ (l : List ℕ). record t { seen = l })
          (joined_new n s.seen (seen_in-order r s sound) (passes_on r t.blocks new)
          (and_from _ _ new_valid (on-itself t.blocks new (omega arith)))
          (λ x l h. elim (on_cases x (and_parts (branch_connects r t.blocks x) (on t.blocks new x) h).1) [
            | inl e ↦ absurd (omega arith)
            | inr e ↦ active_seen r s sound x e
          ]))

    -- where it doesn't, it is marked, and nothing else changes
    module _ (reason : Reason) (bad : own_fault ≡ Some reason) where
      not_valid : branch_connects r t.blocks new ≡ true → ⊥
      not_valid v = clash _ (valid_gives r t.blocks new new v (on-itself t.blocks new (omega arith))) (connects_own (Some reason) bad)

      pub active_tip-fails : active r t ≡ a
      active_tip-fails = stays (λ u v. absurd (not_valid v))

      first_own : first_to_fail r t.blocks new ≡ true
      unfolding first_to_fail
      first_own =
          and_from _ _ (not_from_false _ (connects_own (Some reason) bad))
          (ap (list_all (connects r t.blocks)) (before_here k s.blocks new refl)
          ∙ ap (λ (z : ℕ). list_all (connects r t.blocks) (branch s.blocks z)) tip
          ∙ all_from (connects r t.blocks) (branch s.blocks a) (λ x o. old_connects x (unfold on in o)))

      pub settle_tip-fails : settle r t ≡ record t { bad = new ∷ s.bad }
      unfolding state_after_try fails_on passes_on
      settle_tip-fails =
          settle-one r t new genesis_there (best-candidate r t new genesis_there best-tip) (omega arith) (λ d x l h o. elim (cases_eq d new) [
            | inl e ↦ subst (λ (z : ℕ). on t.blocks z x ≡ true) e o
            | inr e ↦
                let m : d ≤ n = omega arith in
                on_new x ∙ or_right (eqb new x) (on s.blocks a x)
                (subst (λ (z : ℕ). on s.blocks z x ≡ true) (old_candidate active_tip-fails d m h) (sym (on_old d x m) ∙ o))
          ])
          ∙ ap (λ (l : List ℕ). record t { bad = l; seen = union_where (places t.blocks) s.seen (passes_on r t.blocks new) })
          (joined_new n s.bad (bad_in-order r s sound) (fails_on r t.blocks new)
          (and_from _ _ first_own (on-itself t.blocks new (omega arith)))
          (λ x l h.
          let q = and_parts (first_to_fail r t.blocks x) (on t.blocks new x) h in
          elim (on_cases x q.1) [
            | inl e ↦ absurd (omega arith)
            | inr e ↦ absurd (never_fails r s.blocks a x (active_valid r s sound.genesis) e (sym (first_there r k s.blocks x l) ∙ q.0))
          ]))
          ∙ ap (λ (l : List ℕ). record t { bad = new ∷ s.bad; seen = l })
          (joined_within new s.seen (passes_on r t.blocks new) (λ x l h.
          let q = and_parts (branch_connects r t.blocks x) (on t.blocks new x) h in
          elim (on_cases x q.1) [
            | inl e ↦ absurd (not_valid (subst (λ (z : ℕ). branch_connects r t.blocks z ≡ true) (sym e) q.0))
            | inr e ↦ active_seen r s sound x e
          ])
          ∙ joined_more n s.seen (seen_in-order r s sound))
