-- There is one best block, and the active block is the best usable one with a valid branch.
use Rattle.std.proofs.Common.{◌≡◌, ℕ, zero, suc, ◌≤◌, Bool, true, not, ◌&&◌, List, [], ◌∷◌, length, sym, refl, subst, inl, inr, arith}
use Rattle.std.specs.List.{list_any}
use Rattle.std.proofs.lemmas.Bool.{cases_Bool, cases_eq, and_parts, and_from, not-true, not_from_false, false_from_ne_true}
use Rattle.tree.specs.Branches.{Blocks, branch, before, down_from, places}
use Rattle.tree.specs.State.{State, has_no_mark, beats}
use Rattle.tree.specs.Sound.{IsBest}
use Rattle.tree.specs.laws.Sets.{clash, any_from, any_gives, found_only}
use Rattle.tree.specs.laws.Branches.{branch-genesis}
use Rattle.tree.specs.laws.Ranks.{better_falls, better_trans, better_or}
use Rattle.model.specs.Rules.{Rules}
use Rattle.model.specs.Valid.{connects, fault, fault_over, branch_connects}
use Rattle.model.specs.Settle.{is_best, can_be_active, active}

module _ {B : Type 0} (s : State B) (passes : ℕ → Bool) where
  stays : (n a : ℕ) → IsBest s passes n a → (passes (suc n) ≡ true → beats s a (suc n) ≡ true) → IsBest s passes (suc n) a
  stays n a h g = record {
    kept = (let k = h.kept in omega arith);
    can = h.can;
    tops = λ b l e. elim (cases_eq b (suc n)) [
      | inl q ↦ inr (subst (λ (z : ℕ). beats s a z ≡ true) (sym q) (g (subst (λ (z : ℕ). passes z ≡ true) q e)))
      | inr q ↦ h.tops b (omega arith) e
    ];
  }

  moves : (n a : ℕ) → IsBest s passes n a → passes (suc n) ≡ true → beats s (suc n) a ≡ true → IsBest s passes (suc n) (suc n)
  moves n a h t g = record {
    kept = omega arith;
    can = t;
    tops = λ b l e. elim (cases_eq b (suc n)) [
      | inl q ↦ inl q
      | inr q ↦ inr (elim (h.tops b (omega arith) e) [
        | inl w ↦ subst (λ (z : ℕ). beats s (suc n) z ≡ true) (sym w) g
        | inr w ↦ better_trans s (suc n) a b g w
      ])
    ];
  }

  -- where genesis passes there is a best
  pub some_best : (n : ℕ) → passes 0 ≡ true → (a : ℕ) × IsBest s passes n a
  some_best zero z = (0, record { kept = omega arith; can = z; tops = λ b h e. inl (omega arith) })
  some_best (suc n) z =
      let x = some_best n z in
      elim (cases_Bool (passes (suc n))) [
        | inr f ↦ (x.0, stays n x.0 x.1 (λ t. absurd (clash (passes (suc n)) t f)))
        | inl t ↦ elim (better_or s (suc n) x.0 (let k = x.1.kept in omega arith)) [
          | inl g ↦ (suc n, moves n x.0 x.1 t g)
          | inr g ↦ (x.0, stays n x.0 x.1 (λ u. g))
        ]
      ]

  -- the test finds it, and nothing else
  pub is_best-from : (n a : ℕ) → IsBest s passes n a → is_best passes (beats s) (down_from n) a ≡ true
  unfolding is_best
  is_best-from n a h =
      and_from (passes a) (not (list_any (λ b. passes b && beats s b a) (down_from n))) h.can (not_from_false _ (false_from_ne_true _ (λ e.
      let g = any_gives (λ b. passes b && beats s b a) n e in
      let q = and_parts (passes g.0) (beats s g.0 a) g.2 in
      elim (h.tops g.0 g.1 q.0) [
        | inl w ↦ let b = subst (λ (z : ℕ). beats s z a ≡ true) w q.1 in better_falls s a a b b
        | inr w ↦ better_falls s a g.0 w q.1
      ])))

  pub is_best-only : (n a b : ℕ) → IsBest s passes n a → b ≤ n → is_best passes (beats s) (down_from n) b ≡ true → b ≡ a
  unfolding is_best
  is_best-only n a b h l e =
      let q = and_parts (passes b) (not (list_any (λ c. passes c && beats s c b) (down_from n))) e in
      elim (h.tops b l q.0) [
        | inl w ↦ w
        | inr w ↦ absurd (clash _ (any_from (λ c. passes c && beats s c b) n a h.kept (and_from (passes a) (beats s a b) h.can w)) (not-true _ q.1))
      ]

module _ {B I : Type 0} (r : Rules B I) where
  pub valid-genesis : (t : Blocks B) → branch_connects r t 0 ≡ true
  unfolding branch_connects connects fault fault_over before
  valid-genesis t = let e : ◌≡◌ {A = List ℕ} (branch t 0) (0 ∷ []) = branch-genesis t in rw e (rw e refl)

  module _ (s : State B) where
    abbrev pub IsActive : ℕ → Type 0
    IsActive a = IsBest s (can_be_active r s) (length s.blocks) a

    pub can_from : (p : ℕ) → has_no_mark s p ≡ true → branch_connects r s.blocks p ≡ true → can_be_active r s p ≡ true
    unfolding can_be_active
    can_from p u v = and_from _ _ u v

    pub can_gives : (p : ℕ) → can_be_active r s p ≡ true → (has_no_mark s p ≡ true) × (branch_connects r s.blocks p ≡ true)
    unfolding can_be_active
    can_gives p h = and_parts (has_no_mark s p) (branch_connects r s.blocks p) h

    -- a best such block is the active one
    pub active_only : (a : ℕ) → IsActive a → active r s ≡ a
    unfolding active
    active_only a h =
        found_only (is_best (can_be_active r s) (beats s) (places s.blocks)) (length s.blocks) a h.kept (is_best-from s (can_be_active r s) (length s.blocks) a h)
        (λ b l e. is_best-only s (can_be_active r s) (length s.blocks) a b h l e)

    module _ (u : has_no_mark s 0 ≡ true) where
      -- and the active block is one
      pub active_is : IsActive (active r s)
      active_is =
          let x = some_best s (can_be_active r s) (length s.blocks) (can_from 0 u (valid-genesis s.blocks)) in
          subst IsActive (sym (active_only x.0 x.1)) x.1

      pub active_kept : active r s ≤ length s.blocks
      active_kept = active_is.kept

      pub active_usable : has_no_mark s (active r s) ≡ true
      active_usable = (can_gives (active r s) active_is.can).0

      pub active_valid : branch_connects r s.blocks (active r s) ≡ true
      active_valid = (can_gives (active r s) active_is.can).1
