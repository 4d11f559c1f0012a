-- Candidates, and the first block of a branch that doesn't connect.
use Rattle.std.proofs.Common.{◌≡◌, ℕ, zero, suc, ◌≤◌, true, false, not, ◌&&◌, ◌||◌, eqb, length, sym, ap, ◌∙◌, subst, inl, inr, ◌⊎◌, arith}
use Rattle.std.specs.List.{list_all}
use Rattle.std.proofs.lemmas.Bool.{eqb-true, eq-eqb, cases_Bool, or_cases, and_parts, and_from, and_cases, or_left, or_right, not-true, not_from_false, false_from_ne_true}
use Rattle.tree.specs.Branches.{Blocks, has, branch, before, on}
use Rattle.tree.specs.State.{State, has_no_mark, beats}
use Rattle.tree.specs.laws.Sets.{clash, any_from, any_gives, all_gives, all_from, all_fails}
use Rattle.tree.specs.laws.Branches.{on-before, on-bounds, on-itself, on_trans, on_chain, branch_head, before-below}
use Rattle.model.specs.Rules.{Rules}
use Rattle.model.specs.Valid.{connects, branch_connects, first_to_fail}
use Rattle.model.specs.Settle.{active, is_candidate, on_candidate}
use Rattle.model.specs.laws.Actives.{valid-genesis}

module _ {B I : Type 0} (r : Rules B I) (t : Blocks B) where
  pub valid_gives : (c x : ℕ) → branch_connects r t c ≡ true → on t c x ≡ true → connects r t x ≡ true
  unfolding branch_connects on
  valid_gives c x v o = all_gives (connects r t) (branch t c) v x o

  pub valid_from : (c : ℕ) → ((x : ℕ) → on t c x ≡ true → connects r t x ≡ true) → branch_connects r t c ≡ true
  unfolding branch_connects on
  valid_from c f = all_from (connects r t) (branch t c) f

  -- the blocks of a valid branch have valid branches
  pub valid_below : (c x : ℕ) → branch_connects r t c ≡ true → on t c x ≡ true → branch_connects r t x ≡ true
  valid_below c x v o = valid_from x (λ y p. valid_gives c y v (on_trans t c x y o p))

  pub fails : (x : ℕ) → first_to_fail r t x ≡ true → connects r t x ≡ false
  unfolding first_to_fail
  fails x h = not-true (connects r t x) (and_parts (not (connects r t x)) (list_all (connects r t) (before t x)) h).0

  -- none of a valid branch is a first failure
  pub never_fails : (c x : ℕ) → branch_connects r t c ≡ true → on t c x ≡ true → first_to_fail r t x ≡ true → ⊥
  never_fails c x v o f = clash (connects r t x) (valid_gives c x v o) (fails x f)

  -- below a first failure every block connects
  pub below_first : (x y : ℕ) → x ≤ length t → first_to_fail r t x ≡ true → on t x y ≡ true → (x ≡ y) ⊎ (connects r t y ≡ true)
  unfolding first_to_fail
  below_first x y l h o =
      elim (or_cases (eqb x y) (has (before t x) y) (sym (on-before t x y l) ∙ o)) [
        | inl e ↦ inl (eqb-true x y e)
        | inr e ↦ inr (all_gives (connects r t) (before t x) (and_parts (not (connects r t x)) (list_all (connects r t) (before t x)) h).1 y e)
      ]

  -- two first failures on one branch are one
  pub same_first : (d x y : ℕ) → on t d x ≡ true → on t d y ≡ true → first_to_fail r t x ≡ true → first_to_fail r t y ≡ true → x ≡ y
  same_first d x y h g f e =
      elim (on_chain t d x y h g) [
        | inl o ↦ elim (below_first x y (on-bounds t d x h).1 f o) [ inl q ↦ q | inr q ↦ absurd (clash _ q (fails y e)) ]
        | inr o ↦ elim (below_first y x (on-bounds t d y g).1 e o) [ inl q ↦ sym q | inr q ↦ absurd (clash _ q (fails x f)) ]
      ]

  head_fails : (d : ℕ) → d ≤ length t → branch_connects r t d ≡ false → list_all (connects r t) (before t d) ≡ true → connects r t d ≡ false
  unfolding branch_connects
  head_fails d h v a =
      elim (and_cases (connects r t d) (list_all (connects r t) (before t d)) (sym (ap (list_all (connects r t)) (branch_head t d h)) ∙ v)) [
        | inl e ↦ e
        | inr e ↦ absurd (clash _ a e)
      ]

  -- a branch that isn't valid has a first failure
  first_below : (n d : ℕ) → d ≤ n → d ≤ length t → branch_connects r t d ≡ false → (x : ℕ) × (on t d x ≡ true) × (first_to_fail r t x ≡ true)
  unfolding first_to_fail
  first_below zero d l h v = absurd (clash (branch_connects r t 0) (valid-genesis r t) (subst (λ (z : ℕ). branch_connects r t z ≡ false) (omega arith) v))
  first_below (suc n) d l h v =
      elim (cases_Bool (list_all (connects r t) (before t d))) [
        | inl a ↦ (d, on-itself t d h, and_from (not (connects r t d)) (list_all (connects r t) (before t d)) (not_from_false (connects r t d) (head_fails d h v a)) a)
        | inr b ↦
            let w = all_fails (connects r t) (before t d) b in
            let k = before-below t d w.0 h w.1 in
            let o : on t d w.0 ≡ true = on-before t d w.0 h ∙ or_right (eqb d w.0) (has (before t d) w.0) w.1 in
            let u : branch_connects r t w.0 ≡ false = false_from_ne_true (branch_connects r t w.0) (λ u. clash (connects r t w.0) (valid_gives w.0 w.0 u (on-itself t w.0 (omega arith))) w.2) in
            let g = first_below n w.0 (omega arith) (omega arith) u in
            (g.0, on_trans t d w.0 g.0 o g.1, g.2)
      ]

  pub first_failure : (d : ℕ) → d ≤ length t → branch_connects r t d ≡ false → (x : ℕ) × (on t d x ≡ true) × (first_to_fail r t x ≡ true)
  first_failure d h v = first_below d d (omega arith) h v

module _ {B I : Type 0} (r : Rules B I) (s : State B) where
  pub candidate_gives : (c : ℕ) → is_candidate r s c ≡ true → (has_no_mark s c ≡ true) × ((c ≡ active r s) ⊎ (beats s c (active r s) ≡ true))
  unfolding is_candidate
  candidate_gives c h =
      let b = and_parts (has_no_mark s c) (eqb c (active r s) || beats s c (active r s)) h in
      (b.0, elim (or_cases (eqb c (active r s)) (beats s c (active r s)) b.1) [ inl e ↦ inl (eqb-true c (active r s) e) | inr e ↦ inr e ])

  pub candidate_from : (c : ℕ) → has_no_mark s c ≡ true → (c ≡ active r s) ⊎ (beats s c (active r s) ≡ true) → is_candidate r s c ≡ true
  unfolding is_candidate
  candidate_from c u h =
      and_from _ _ u (elim h [
        | inl e ↦ or_left (eqb c (active r s)) (beats s c (active r s)) (eq-eqb c (active r s) e)
        | inr e ↦ or_right (eqb c (active r s)) (beats s c (active r s)) e
      ])

  pub on_candidate_gives : (x : ℕ) → on_candidate r s x ≡ true → (d : ℕ) × (d ≤ length s.blocks) × (is_candidate r s d ≡ true) × (on s.blocks d x ≡ true)
  unfolding on_candidate
  on_candidate_gives x h =
      let g = any_gives (λ c. is_candidate r s c && on s.blocks c x) (length s.blocks) h in
      let b = and_parts (is_candidate r s g.0) (on s.blocks g.0 x) g.2 in
      (g.0, g.1, b.0, b.1)

  pub on_candidate_from : (d x : ℕ) → d ≤ length s.blocks → is_candidate r s d ≡ true → on s.blocks d x ≡ true → on_candidate r s x ≡ true
  unfolding on_candidate
  on_candidate_from d x l c o = any_from (λ c. is_candidate r s c && on s.blocks c x) (length s.blocks) d l (and_from _ _ c o)
