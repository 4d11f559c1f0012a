-- What calling a block precious changes.
use Rattle.std.proofs.Common.{◌≡◌, ℕ, ◌≤◌, true, length, sym, refl, ap, ◌∙◌, subst, inl, inr, ◌⊎◌, arith}
use Rattle.std.proofs.lemmas.Bool.{cases_eq}
use Rattle.tree.specs.Branches.{on, height}
use Rattle.tree.specs.State.{State, has_no_mark, beats, with_call}
use Rattle.tree.specs.laws.Ranks.{better_falls, better-height, better-called}
use Rattle.model.specs.Rules.{Rules}
use Rattle.model.specs.Valid.{branch_connects}
use Rattle.model.specs.Settle.{active, settle}
use Rattle.model.specs.StateInvariant.{IsSettled}
use Rattle.model.specs.laws.Actives.{active_is, active_only, active_kept, active_usable, active_valid, can_from, can_gives}
use Rattle.model.specs.laws.Candidates.{candidate_gives}
use Rattle.model.specs.laws.SettledState.{bad_in-order, seen_in-order, best_usable, active_seen, settled_where}

module _ {B I : Type 0} (r : Rules B I) (s : State B) (p : ℕ) where
  abbrev after : State B
  after = with_call s p

  pub usable-called : (d : ℕ) → has_no_mark after d ≡ has_no_mark s d
  unfolding has_no_mark
  usable-called d = refl

  module _ (sound : IsSettled r s) where
    not_above : (d : ℕ) → (d ≡ active r s) ⊎ (beats s (active r s) d ≡ true) → height s.blocks d ≤ height s.blocks (active r s)
    not_above d (inl e) = let w = ap (height s.blocks) e in omega arith
    not_above d (inr e) = better-height s (active r s) d e

    -- a block with a usable and valid branch, not lower than the active one, becomes active
    pub active-called : p ≤ length s.blocks → has_no_mark s p ≡ true → branch_connects r s.blocks p ≡ true → height s.blocks (active r s) ≤ height s.blocks p → active r after ≡ p
    active-called l u v h =
        active_only r after p (record {
          kept = l;
          can = can_from r after p (usable-called p ∙ u) v;
          tops = λ d m e.
              let q = can_gives r after d e in
              let k = not_above d ((active_is r s sound.genesis).tops d m (can_from r s d (sym (usable-called d) ∙ q.0) q.1)) in
              elim (cases_eq d p) [
                | inl w ↦ inl w
                | inr w ↦ inr (better-called s p d (λ z. w (sym z)) (omega arith))
              ];
        })

    -- the active block stays, and nothing else changes
    module _ (is : p ≡ active r s) where
      pub active_called-again : active r after ≡ p
      active_called-again =
          active-called (subst (λ (z : ℕ). z ≤ length s.blocks) (sym is) (active_kept r s sound.genesis))
          (subst (λ (z : ℕ). has_no_mark s z ≡ true) (sym is) (active_usable r s sound.genesis))
          (subst (λ (z : ℕ). branch_connects r s.blocks z ≡ true) (sym is) (active_valid r s sound.genesis))
          (let w = ap (height s.blocks) is in omega arith)

      pub settle-called_active : settle r after ≡ after
      settle-called_active =
          settled_where r after p (subst (λ (z : ℕ). branch_connects r s.blocks z ≡ true) (sym is) (active_valid r s sound.genesis))
          (λ d l h.
          let q = candidate_gives r after d h in
          elim (cases_eq d p) [
            | inl w ↦ w
            | inr w ↦ absurd (elim q.1 [
              | inl e ↦ w (e ∙ active_called-again)
              | inr e ↦
                  let k = not_above d ((best_usable r s sound).tops d l (sym (usable-called d) ∙ q.0)) in
                  let m = ap (height s.blocks) is in
                  better_falls after p d (better-called s p d (λ z. w (sym z)) (omega arith)) (subst (λ (z : ℕ). beats after d z ≡ true) active_called-again e)
            ])
          ])
          (λ x o. active_seen r s sound x (subst (λ (z : ℕ). on s.blocks z x ≡ true) is o))
          (bad_in-order r s sound) (seen_in-order r s sound)
