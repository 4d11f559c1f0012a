-- Branches: what is on one, in what order, and what a new block leaves of them.
use Rattle.std.proofs.Common.{◌≡◌, ℕ, suc, ◌<◌, ◌≤◌, true, false, cond, ◌||◌, eqb, List, [], ◌∷◌, length, sym, refl, ap, ◌∙◌, subst, inl, inr, ◌⊎◌, arith}
use Rattle.std.proofs.lemmas.Bool.{eqb-true, eq-eqb, ne_eqb, or_cases, or_left, or_right, true≢false, cases_eq}
use Rattle.tree.specs.Branches.{Kept, Blocks, first_of, rest_of, has, branch, before, on, height, parent_at}

-- ---- a new block and the others

module _ {B : Type 0} (k : Kept B) (older : Blocks B) where
  pub branch_here : (c : ℕ) → suc (length older) ≡ c → ◌≡◌ {A = List ℕ} (branch (k ∷ older) c) (c ∷ branch older k.parent)
  unfolding branch
  branch_here c e = ap (λ b. cond b (c ∷ branch older k.parent) (branch older c)) (eq-eqb (suc (length older)) c e)

  pub branch_there : (c : ℕ) → (suc (length older) ≡ c → ⊥) → ◌≡◌ {A = List ℕ} (branch (k ∷ older) c) (branch older c)
  unfolding branch
  branch_there c n = ap (λ b. cond b (c ∷ branch older k.parent) (branch older c)) (ne_eqb (suc (length older)) c n)

  pub before_here : (c : ℕ) → suc (length older) ≡ c → ◌≡◌ {A = List ℕ} (before (k ∷ older) c) (branch older k.parent)
  unfolding before
  before_here c e = ap rest_of (branch_here c e)

  pub before_there : (c : ℕ) → (suc (length older) ≡ c → ⊥) → ◌≡◌ {A = List ℕ} (before (k ∷ older) c) (before older c)
  unfolding before
  before_there c n = ap rest_of (branch_there c n)

  pub on_here : (c x : ℕ) → suc (length older) ≡ c → on (k ∷ older) c x ≡ (eqb c x || on older k.parent x)
  unfolding on
  on_here c x e = ap (λ (l : List ℕ). has l x) (branch_here c e)

  pub on_there : (c x : ℕ) → (suc (length older) ≡ c → ⊥) → on (k ∷ older) c x ≡ on older c x
  unfolding on
  on_there c x n = ap (λ (l : List ℕ). has l x) (branch_there c n)

  on_self : (c : ℕ) → suc (length older) ≡ c → on (k ∷ older) c c ≡ true
  on_self c e = on_here c c e ∙ or_left (eqb c c) (on older k.parent c) (eq-eqb c c refl)

  on_up : (c x : ℕ) → suc (length older) ≡ c → on older k.parent x ≡ true → on (k ∷ older) c x ≡ true
  on_up c x e h = on_here c x e ∙ or_right (eqb c x) (on older k.parent x) h

  on_old : (c x : ℕ) → (suc (length older) ≡ c → ⊥) → on older c x ≡ true → on (k ∷ older) c x ≡ true
  on_old c x n h = on_there c x n ∙ h

  -- what is on a branch is its block, or on the parent's, or is on the branch of an older block
  pub on_cases : (c x : ℕ) → on (k ∷ older) c x ≡ true → ((suc (length older) ≡ c) × ((c ≡ x) ⊎ (on older k.parent x ≡ true))) ⊎ ((suc (length older) ≡ c → ⊥) × (on older c x ≡ true))
  on_cases c x h =
      elim (cases_eq (suc (length older)) c) [
        | inl e ↦ inl (e, elim (or_cases (eqb c x) (on older k.parent x) (sym (on_here c x e) ∙ h)) [ inl f ↦ inl (eqb-true c x f) | inr g ↦ inr g ])
        | inr n ↦ inr (n, sym (on_there c x n) ∙ h)
      ]

-- ---- genesis alone

module _ (B : Type 0) where
  alone : (c x : ℕ) → on {B = B} [] c x ≡ (eqb 0 x || false)
  unfolding on branch
  alone c x = refl

  alone-zero : (c x : ℕ) → on {B = B} [] c x ≡ true → 0 ≡ x
  alone-zero c x h = elim (or_cases (eqb 0 x) false (sym (alone c x) ∙ h)) [ inl e ↦ eqb-true 0 x e | inr e ↦ absurd (true≢false (sym e)) ]

  alone-branch : (p : ℕ) → 0 ≡ p → ◌≡◌ {A = List ℕ} (branch {B = B} [] p) (p ∷ rest_of (branch {B = B} [] p))
  unfolding branch
  alone-branch p e = ap (λ (z : ℕ). z ∷ []) e

module _ {B : Type 0} where
  -- ---- what is on a branch

  -- is kept, and came no later
  pub on-bounds : (t : Blocks B) (c x : ℕ) → on t c x ≡ true → (x ≤ c) × (x ≤ length t)
  on-bounds [] c x h = let e = alone-zero B c x h in (omega arith, omega arith)
  on-bounds (k ∷ older) c x h =
      elim (on_cases k older c x h) [
        | inl p ↦ elim p.1 [
          | inl e ↦ let q = p.0 in (omega arith, omega arith)
          | inr q ↦ let b = on-bounds older k.parent x q in let l = b.1 in let m = p.0 in (omega arith, omega arith)
        ]
        | inr p ↦ let b = on-bounds older c x p.1 in let l = b.0 in let m = b.1 in (omega arith, omega arith)
      ]

  pub on-itself : (t : Blocks B) (c : ℕ) → c ≤ length t → on t c c ≡ true
  on-itself [] c h = alone B c c ∙ or_left (eqb 0 c) false (eq-eqb 0 c (omega arith))
  on-itself (k ∷ older) c h =
      elim (cases_eq (suc (length older)) c) [
        | inl e ↦ on_self k older c e
        | inr n ↦ on_old k older c c n (on-itself older c (omega arith))
      ]

  -- genesis is on each
  pub on-genesis : (t : Blocks B) (c : ℕ) → on t c 0 ≡ true
  on-genesis [] c = alone B c 0
  on-genesis (k ∷ older) c =
      elim (cases_eq (suc (length older)) c) [
        | inl e ↦ on_up k older c 0 e (on-genesis older k.parent)
        | inr n ↦ on_old k older c 0 n (on-genesis older c)
      ]

  pub on_trans : (t : Blocks B) (c x y : ℕ) → on t c x ≡ true → on t x y ≡ true → on t c y ≡ true
  on_trans [] c x y h g = alone B c y ∙ sym (alone B x y) ∙ g
  on_trans (k ∷ older) c x y h g =
      elim (on_cases k older c x h) [
        | inl p ↦ elim p.1 [
          | inl e ↦ subst (λ (z : ℕ). on (k ∷ older) z y ≡ true) (sym e) g
          | inr q ↦ on_up k older c y p.0 (on_trans older k.parent x y q (old k.parent q))
        ]
        | inr p ↦ on_old k older c y p.0 (on_trans older c x y p.1 (old c p.1))
      ]
    where
      old : (d : ℕ) → on older d x ≡ true → on older x y ≡ true
      old d q = let b = (on-bounds older d x q).1 in sym (on_there k older x y (omega arith)) ∙ g

  -- of two blocks on one branch, one is on the branch of the other
  pub on_chain : (t : Blocks B) (d x y : ℕ) → on t d x ≡ true → on t d y ≡ true → (on t x y ≡ true) ⊎ (on t y x ≡ true)
  on_chain [] d x y h g = inl (alone B x y ∙ sym (alone B d y) ∙ g)
  on_chain (k ∷ older) d x y h g =
      elim (on_cases k older d x h) [
        | inr p ↦ elim (on_cases k older d y g) [
          | inr q ↦ lifted d p.1 q.1 (on_chain older d x y p.1 q.1)
          | inl q ↦ absurd (p.0 q.0)
        ]
        | inl p ↦ elim (on_cases k older d y g) [
          | inr q ↦ absurd (q.0 p.0)
          | inl q ↦ elim p.1 [
            | inl f ↦ inl (subst (λ (z : ℕ). on (k ∷ older) z y ≡ true) f g)
            | inr a ↦ elim q.1 [
              | inl f ↦ inr (subst (λ (z : ℕ). on (k ∷ older) z x ≡ true) f h)
              | inr b ↦ lifted k.parent a b (on_chain older k.parent x y a b)
            ]
          ]
        ]
      ]
    where
      lifted : (c : ℕ) → on older c x ≡ true → on older c y ≡ true → (on older x y ≡ true) ⊎ (on older y x ≡ true) → (on (k ∷ older) x y ≡ true) ⊎ (on (k ∷ older) y x ≡ true)
      lifted c a b (inl e) = let l = (on-bounds older c x a).1 in inl (on_old k older x y (omega arith) e)
      lifted c a b (inr e) = let l = (on-bounds older c y b).1 in inr (on_old k older y x (omega arith) e)

  -- ---- a branch begins at its block

  pub branch_head : (t : Blocks B) (p : ℕ) → p ≤ length t → ◌≡◌ {A = List ℕ} (branch t p) (p ∷ before t p)
  unfolding before
  branch_head [] p h = alone-branch B p (omega arith)
  branch_head (k ∷ older) p h =
      elim (cases_eq (suc (length older)) p) [
        | inl e ↦ branch_here k older p e ∙ ap (λ l. p ∷ l) (ap rest_of (sym (branch_here k older p e)))
        | inr n ↦ branch_there k older p n ∙ branch_head older p (omega arith) ∙ ap (λ l. p ∷ rest_of l) (sym (branch_there k older p n))
      ]

  pub branch-genesis : (t : Blocks B) → ◌≡◌ {A = List ℕ} (branch t 0) (0 ∷ [])
  unfolding branch
  branch-genesis [] = refl
  branch-genesis (k ∷ older) = branch_there k older 0 (omega arith) ∙ branch-genesis older

  pub on-before : (t : Blocks B) (p x : ℕ) → p ≤ length t → on t p x ≡ (eqb p x || has (before t p) x)
  unfolding on
  on-before t p x h = ap (λ (l : List ℕ). has l x) (branch_head t p h)

  -- what stands before a block came before it
  pub before-below : (t : Blocks B) (p x : ℕ) → p ≤ length t → has (before t p) x ≡ true → x < p
  unfolding before branch on
  before-below [] p x h o = absurd (true≢false (sym o))
  before-below (k ∷ older) p x h o =
      elim (cases_eq (suc (length older)) p) [
        | inl e ↦ let b = (on-bounds older k.parent x (ap (λ (l : List ℕ). has l x) (sym (before_here k older p e)) ∙ o)).1 in omega arith
        | inr n ↦ before-below older p x (omega arith) (ap (λ (l : List ℕ). has l x) (sym (before_there k older p n)) ∙ o)
      ]

  -- ---- the height and the parent of a new block, and of the others

  pub height_here : (k : Kept B) (older : Blocks B) → k.parent ≤ length older → height (k ∷ older) (suc (length older)) ≡ suc (height older k.parent)
  unfolding height
  height_here k older h = ap (λ (l : List ℕ). length l) (before_here k older (suc (length older)) refl) ∙ ap (λ (l : List ℕ). length l) (branch_head older k.parent h)

  pub height_there : (k : Kept B) (older : Blocks B) (c : ℕ) → c ≤ length older → height (k ∷ older) c ≡ height older c
  unfolding height
  height_there k older c h = ap (λ (l : List ℕ). length l) (before_there k older c (omega arith))

  pub parent_here : (k : Kept B) (older : Blocks B) → k.parent ≤ length older → parent_at (k ∷ older) (suc (length older)) ≡ k.parent
  unfolding parent_at
  parent_here k older h = ap first_of (before_here k older (suc (length older)) refl) ∙ ap first_of (branch_head older k.parent h)

  pub parent_there : (k : Kept B) (older : Blocks B) (p : ℕ) → p ≤ length older → parent_at (k ∷ older) p ≡ parent_at older p
  unfolding parent_at
  parent_there k older p h = ap first_of (before_there k older p (omega arith))

  pub height-genesis : (t : Blocks B) → height t 0 ≡ 0
  unfolding height before
  height-genesis t = ap (λ (l : List ℕ). length (rest_of l)) (branch-genesis t)

  pub parent-genesis : (t : Blocks B) → parent_at t 0 ≡ 0
  unfolding parent_at before
  parent-genesis t = ap (λ (l : List ℕ). first_of (rest_of l)) (branch-genesis t)
