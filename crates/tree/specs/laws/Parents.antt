-- The parent of a block, and walks along a branch.
use Rattle.std.proofs.Common.{◌≡◌, ℕ, zero, suc, ◌<◌, ◌≤◌, true, eqb, List, [], ◌∷◌, ◌||◌, length, sym, refl, ap, ◌∙◌, subst, inl, inr, arith}
use Rattle.std.proofs.lemmas.Bool.{eqb-true, cases_eq, or_cases, or_right}
use Rattle.tree.specs.Branches.{Blocks, first_of, has, branch, before, on, height, parent_at}
use Rattle.tree.specs.laws.Branches.{branch_here, branch_there, branch_head, branch-genesis, before_here, before_there, before-below, on-before, on-itself, on-bounds}

module _ {B : Type 0} where
  first-kept : (t : Blocks B) (p : ℕ) → first_of (branch t p) ≤ length t
  unfolding branch
  first-kept [] p = omega arith
  first-kept (k ∷ older) p =
      elim (cases_eq (suc (length older)) p) [
        | inl e ↦ subst (λ (l : List ℕ). first_of l ≤ suc (length older)) (sym (branch_here k older p e)) (omega arith)
        | inr n ↦ let h = first-kept older p in subst (λ (l : List ℕ). first_of l ≤ suc (length older)) (sym (branch_there k older p n)) (omega arith)
      ]

  branch-first : (t : Blocks B) (p : ℕ) → ◌≡◌ {A = List ℕ} (branch t (first_of (branch t p))) (branch t p)
  unfolding branch
  branch-first [] p = refl
  branch-first (k ∷ older) p =
      elim (cases_eq (suc (length older)) p) [
        | inl e ↦ ap (λ (l : List ℕ). branch (k ∷ older) (first_of l)) (branch_here k older p e)
        | inr n ↦
            let h = first-kept older p in
            ap (λ (l : List ℕ). branch (k ∷ older) (first_of l)) (branch_there k older p n)
            ∙ branch_there k older (first_of (branch older p)) (omega arith) ∙ branch-first older p ∙ sym (branch_there k older p n)
      ]

  -- what stands before a block is its parent's branch
  pub before-parent : (t : Blocks B) (p : ℕ) → 0 < p → p ≤ length t → ◌≡◌ {A = List ℕ} (before t p) (branch t (parent_at t p))
  unfolding parent_at
  before-parent [] p z h = absurd (omega arith)
  before-parent (k ∷ older) p z h =
      elim (cases_eq (suc (length older)) p) [
        | inl e ↦
            let l = first-kept older k.parent in
            before_here k older p e ∙ sym (branch-first older k.parent) ∙ sym (branch_there k older (first_of (branch older k.parent)) (omega arith))
            ∙ ap (λ (l : List ℕ). branch (k ∷ older) (first_of l)) (sym (before_here k older p e))
        | inr n ↦
            let up = before-parent older p z (omega arith) in
            let l : first_of (before older p) ≤ length older = subst (λ (l : List ℕ). first_of l ≤ length older) (sym up) (first-kept older (first_of (before older p))) in
            before_there k older p n ∙ up ∙ sym (branch_there k older (first_of (before older p)) (omega arith))
            ∙ ap (λ (l : List ℕ). branch (k ∷ older) (first_of l)) (sym (before_there k older p n))
      ]

module _ {B : Type 0} (t : Blocks B) where
  module _ (p : ℕ) (z : 0 < p) (h : p ≤ length t) where
    -- the parent is kept
    pub parent-kept : parent_at t p ≤ length t
    unfolding parent_at
    parent-kept = subst (λ (l : List ℕ). first_of l ≤ length t) (sym (before-parent t p z h)) (first-kept t (parent_at t p))

    has-parent : has (before t p) (parent_at t p) ≡ true
    unfolding on
    has-parent = ap (λ (l : List ℕ). has l (parent_at t p)) (before-parent t p z h) ∙ on-itself t (parent_at t p) parent-kept

    -- it came before the block
    pub parent-below : parent_at t p < p
    parent-below = before-below t p (parent_at t p) h has-parent

    -- it is on the block's branch
    pub on-parent : on t p (parent_at t p) ≡ true
    on-parent = on-before t p (parent_at t p) h ∙ or_right (eqb p (parent_at t p)) (has (before t p) (parent_at t p)) has-parent

    -- on whose branch the block stands
    pub branch-parent : ◌≡◌ {A = List ℕ} (branch t p) (p ∷ branch t (parent_at t p))
    branch-parent = branch_head t p h ∙ ap (λ (l : List ℕ). p ∷ l) (before-parent t p z h)

    pub on_parent-also : (x : ℕ) → on t p x ≡ (eqb p x || on t (parent_at t p) x)
    unfolding on
    on_parent-also x = ap (λ (l : List ℕ). has l x) branch-parent

    -- the block is one higher
    pub height-parent : height t p ≡ suc (height t (parent_at t p))
    unfolding height
    height-parent = ap (λ (l : List ℕ). length l) (before-parent t p z h) ∙ ap (λ (l : List ℕ). length l) (branch_head t (parent_at t p) parent-kept)

    -- what else is on a branch is on the parent's
    pub on-rest : (x : ℕ) → on t p x ≡ true → (p ≡ x → ⊥) → on t (parent_at t p) x ≡ true
    on-rest x o n = elim (or_cases (eqb p x) (on t (parent_at t p) x) (sym (on_parent-also x) ∙ o)) [ inl e ↦ absurd (n (eqb-true p x e)) | inr e ↦ e ]

  -- a block isn't higher than its place
  pub height-place : (n p : ℕ) → p ≤ n → p ≤ length t → height t p ≤ p
  height-place zero p l h = let e = ap (height t) (zero_is p l) in let g = height_zero in omega arith
    where
      zero_is : (q : ℕ) → q ≤ 0 → q ≡ 0
      zero_is q m = omega arith

      height_zero : height t 0 ≡ 0
      height_zero = Rattle.tree.specs.laws.Branches.height-genesis t
  height-place (suc n) p l h =
      elim (cases_eq 0 p) [
        | inl e ↦ height-place n p (omega arith) h
        | inr e ↦
            let z : 0 < p = omega arith in
            let b = parent-below p z h in
            let up = height-parent p z h in
            let g = height-place n (parent_at t p) (omega arith) (parent-kept p z h) in
            omega arith
      ]

  climb_to : (f : ℕ) (P : ℕ → Type 0) → P f → ((x : ℕ) → f < x → x ≤ length t → on t (parent_at t x) f ≡ true → P (parent_at t x) → P x)
      → (n p : ℕ) → p ≤ n → p ≤ length t → on t p f ≡ true → P p
  climb_to f P base up zero p l h o = let b = (on-bounds t p f o).0 in let e : f ≡ p = omega arith in subst P e base
  climb_to f P base up (suc n) p l h o =
      elim (cases_eq p f) [
        | inl e ↦ subst P (sym e) base
        | inr n2 ↦
            let b = (on-bounds t p f o).0 in
            let z : 0 < p = omega arith in
            let m = parent-below p z h in
            let r = on-rest p z h f o n2 in
            up p (omega arith) h r (climb_to f P base up n (parent_at t p) (omega arith) (omega arith) r)
      ]

  -- what holds of f, and of each block above it where it does of its parent, holds of all whose branch has f
  pub climb : (f : ℕ) (P : ℕ → Type 0) → P f → ((x : ℕ) → f < x → x ≤ length t → on t (parent_at t x) f ≡ true → P (parent_at t x) → P x)
      → (p : ℕ) → p ≤ length t → on t p f ≡ true → P p
  climb f P base up p h o = climb_to f P base up p p (omega arith) h o
