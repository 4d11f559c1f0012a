-- The places from a block down to another one on its branch, and the last block that two branches share.
use Rattle.std.proofs.Common.{◌≡◌, ℕ, zero, suc, ◌<◌, ◌≤◌, Bool, true, cond, eqb, List, [], ◌∷◌, ◌++◌, length, Some, sym, refl, ap, ◌∙◌, subst, inl, inr, arith}
use Rattle.std.specs.List.{find}
use Rattle.std.specs.Option.{unwrap_or}
use Rattle.std.proofs.lemmas.Bool.{eq-eqb, ne_eqb, cases_Bool, cases_eq}
use Rattle.tree.specs.Branches.{Blocks, first_of, rest_of, branch, before, on, parent_at}
use Rattle.tree.specs.Tips.{last_shared}
use Rattle.tree.specs.laws.Sets.{clash}
use Rattle.tree.specs.laws.Branches.{branch_head, on-bounds, on-itself, on-genesis, on_trans}
use Rattle.tree.specs.laws.Parents.{parent-below, branch-parent, on-parent, on-rest, climb}

-- the places before one of these
unfoldable pub until : ℕ → List ℕ → List ℕ
until f [] = []
until f (x ∷ l) = cond (eqb x f) [] (x ∷ until f l)

module _ {B : Type 0} (t : Blocks B) where
  -- the places from p down to f, without f
  unfoldable pub above : ℕ → ℕ → List ℕ
  above p f = until f (branch t p)

  -- from f to itself there are none
  pub above-end : (f : ℕ) → f ≤ length t → above f f ≡ []
  unfolding above until
  above-end f h = ap (until f) (branch_head t f h) ∙ ap (λ b. cond b [] (f ∷ until f (before t f))) (eq-eqb f f refl)

  -- above f a block is on top of those of its parent
  pub above-step : (p f : ℕ) → f < p → p ≤ length t → ◌≡◌ {A = List ℕ} (above p f) (p ∷ above (parent_at t p) f)
  unfolding above until
  above-step p f l h =
      ap (until f) (branch-parent t p (omega arith) h) ∙ ap (λ b. cond b [] (p ∷ until f (branch t (parent_at t p)))) (ne_eqb p f (omega arith))

  -- with f's own branch they are the whole branch
  pub above-rest : (p f : ℕ) → p ≤ length t → on t p f ≡ true → ◌≡◌ {A = List ℕ} (branch t p) (above p f ++ branch t f)
  above-rest p f h o =
      climb t f (λ x. ◌≡◌ {A = List ℕ} (branch t x) (above x f ++ branch t f))
      (ap (λ (l : List ℕ). l ++ branch t f) (sym (above-end f (on-bounds t p f o).1)))
      (λ x l k r e. branch-parent t x (omega arith) k ∙ ap (λ (l : List ℕ). x ∷ l) e ∙ ap (λ (l : List ℕ). l ++ branch t f) (sym (above-step x f l k)))
      p h o

  -- x is above f, and rest are the places from its parent down to f
  pub record OnWay (f x : ℕ) (rest : List ℕ) : Type 0 where
    pub above_f : f < x
    pub kept : x ≤ length t
    pub on_parent : on t (parent_at t x) f ≡ true
    pub rest_is : ◌≡◌ {A = List ℕ} rest (above (parent_at t x) f)

  -- such a place, and those after it, which are its parent's
  pub above-part : (p f : ℕ) → p ≤ length t → on t p f ≡ true → (front : List ℕ) (x : ℕ) (rest : List ℕ) → above p f ≡ front ++ (x ∷ rest) → OnWay f x rest
  above-part p f h o =
      climb t f (λ y. (front : List ℕ) (x : ℕ) (rest : List ℕ) → above y f ≡ front ++ (x ∷ rest) → OnWay f x rest)
      (λ front x rest e. absurd (nothing-in front x rest (sym (above-end f (on-bounds t p f o).1) ∙ e)))
      (λ y l k q up front x rest e. split y l k q up front x rest (sym (above-step y f l k) ∙ e))
      p h o
    where
      nothing-in : (front : List ℕ) (x : ℕ) (rest : List ℕ) → ◌≡◌ {A = List ℕ} [] (front ++ (x ∷ rest)) → ⊥
      nothing-in [] x rest e = cc
      nothing-in (w ∷ front) x rest e = cc

      split : (y : ℕ) → f < y → y ≤ length t → on t (parent_at t y) f ≡ true → ((front : List ℕ) (x : ℕ) (rest : List ℕ) → above (parent_at t y) f ≡ front ++ (x ∷ rest) → OnWay f x rest)
          → (front : List ℕ) (x : ℕ) (rest : List ℕ) → ◌≡◌ {A = List ℕ} (y ∷ above (parent_at t y) f) (front ++ (x ∷ rest)) → OnWay f x rest
      split y l k q up [] x rest e =
          subst (λ (z : ℕ). OnWay f z rest) (ap first_of e) (record { above_f = l; kept = k; on_parent = q; rest_is = ap rest_of (sym e) })
      split y l k q up (w ∷ front) x rest e = up front x rest (ap rest_of e)

-- f is the last block on both branches
pub record IsShared {B : Type 0} (t : Blocks B) (a p f : ℕ) : Type 0 where
  pub here : on t a f ≡ true
  pub there : on t p f ≡ true
  pub last : (x : ℕ) → on t a x ≡ true → on t p x ≡ true → on t f x ≡ true

-- the first that passes
find-first : (pass : ℕ → Bool) (x : ℕ) (l : List ℕ) → pass x ≡ true → unwrap_or (find pass (x ∷ l)) 0 ≡ x
find-first pass x l h = ap (λ b. unwrap_or (cond b (Some x) (find pass l)) 0) h

find-later : (pass : ℕ → Bool) (x : ℕ) (l : List ℕ) → (pass x ≡ true → ⊥) → unwrap_or (find pass (x ∷ l)) 0 ≡ unwrap_or (find pass l) 0
find-later pass x l h = elim (cases_Bool (pass x)) [ inl t ↦ absurd (h t) | inr n ↦ ap (λ b. unwrap_or (cond b (Some x) (find pass l)) 0) n ]

module _ {B : Type 0} (t : Blocks B) (a : ℕ) where
  abbrev found : ℕ → ℕ
  found p = unwrap_or (find (on t a) (branch t p)) 0

  shared-at : (p : ℕ) → p ≤ length t → on t a p ≡ true → IsShared t a p (found p)
  shared-at p h o =
      subst (λ (f : ℕ). IsShared t a p f)
      (sym (ap (λ (l : List ℕ). unwrap_or (find (on t a) l) 0) (branch_head t p h) ∙ find-first (on t a) p (before t p) o))
      (record { here = o; there = on-itself t p h; last = λ x m q. q })

  shared-below : (p : ℕ) (z : 0 < p) (h : p ≤ length t) → (on t a p ≡ true → ⊥) → IsShared t a (parent_at t p) (found (parent_at t p)) → IsShared t a p (found p)
  shared-below p z h n w =
      subst (λ (f : ℕ). IsShared t a p f)
      (sym (ap (λ (l : List ℕ). unwrap_or (find (on t a) l) 0) (branch-parent t p z h) ∙ find-later (on t a) p (branch t (parent_at t p)) n))
      (record {
        here = w.here;
        there = on_trans t p (parent_at t p) (found (parent_at t p)) (on-parent t p z h) w.there;
        last = λ x m q. w.last x m (on-rest t p z h x q (λ e. n (subst (λ (y : ℕ). on t a y ≡ true) (sym e) m)));
      })

  shared : (n p : ℕ) → p ≤ n → p ≤ length t → IsShared t a p (found p)
  shared zero p l h = shared-at p h (subst (λ (y : ℕ). on t a y ≡ true) (omega arith) (on-genesis t a))
  shared (suc n) p l h =
      elim (cases_Bool (on t a p)) [
        | inl e ↦ shared-at p h e
        | inr e ↦
            let w : on t a p ≡ true → ⊥ = λ v. clash (on t a p) v e in
            let z : 0 < p = elim (cases_eq 0 p) [ inl q ↦ absurd (w (subst (λ (y : ℕ). on t a y ≡ true) q (on-genesis t a))) | inr q ↦ omega arith ] in
            let m = parent-below t p z h in
            shared-below p z h w (shared n (parent_at t p) (omega arith) (omega arith))
      ]

  -- the last shared block is on both branches, and each block on both is on its own
  pub last-shared : (p : ℕ) → p ≤ length t → IsShared t a p (last_shared t a p)
  unfolding last_shared
  last-shared p h = shared p p (omega arith) h
