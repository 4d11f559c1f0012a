-- The active branch by height, and the walk down to it.
use Rattle.std.proofs.Common.{◌≡◌, ℕ, zero, suc, ◌-◌, ◌<◌, ◌≤◌, true, false, cond, ◌&&◌, eqb, ltb, List, [], ◌∷◌, length, reverse, get_or, Some, sym, ap, ◌∙◌, subst, inl, inr, arith}
use Rattle.std.specs.List.{find}
use Rattle.std.specs.Option.{unwrap_or}
use Rattle.std.proofs.lemmas.Bool.{eq-eqb, eqb-true, lt-ltb, ltb-true, and_parts, and_from, cases_eq, true≢false}
use Rattle.std.proofs.lemmas.List.{length-reverse, get_or-reverse}
use Rattle.tree.specs.Branches.{Blocks, has, branch, before, on, height, parent_at}
use Rattle.tree.specs.Tips.{last_shared}
use Rattle.tree.specs.laws.Sets.{has_here, has_there, same_tests}
use Rattle.tree.specs.laws.Branches.{branch_head, on-bounds, on-genesis}
use Rattle.tree.specs.laws.Parents.{branch-parent, climb}

pub has_at : (l : List ℕ) (i d : ℕ) → i < length l → has l (get_or l i d) ≡ true
has_at [] i d h = absurd (omega arith)
has_at (y ∷ l) zero d h = has_here y l
has_at (y ∷ l) (suc i) d h = has_there y (get_or l i d) l (has_at l i d (omega arith))

module _ {B : Type 0} (t : Blocks B) where
  -- a block of a branch stands so high above its end
  abbrev Above : ℕ → ℕ → Type 0
  Above x p = (height t x < length (branch t p)) × (get_or (branch t p) (length (branch t p) - 1 - height t x) 0 ≡ x)

  above : (x p : ℕ) → p ≤ length t → on t p x ≡ true → Above x p
  unfolding height
  above x p h o = climb t x (Above x) own up p h o
    where
      kept : x ≤ length t
      kept = (on-bounds t p x o).1

      own : Above x x
      own =
          let e = branch_head t x kept in
          let l = ap (λ (b : List ℕ). length b) e in
          let z : length (branch t x) - 1 - length (before t x) ≡ 0 = omega arith in (
            omega arith,
            ap (λ (b : List ℕ). get_or b (length (branch t x) - 1 - length (before t x)) 0) e ∙ ap (λ (i : ℕ). get_or (x ∷ before t x) i 0) z,
          )

      up : (y : ℕ) → x < y → y ≤ length t → on t (parent_at t y) x ≡ true → Above x (parent_at t y) → Above x y
      up y z k w f =
          let e = branch-parent t y (omega arith) k in
          let l = ap (λ (b : List ℕ). length b) e in
          let g = f.0 in (
            omega arith,
            ap (λ (b : List ℕ). get_or b (length (branch t y) - 1 - length (before t x)) 0) e
                ∙ ap (λ (i : ℕ). get_or (y ∷ branch t (parent_at t y)) i 0) (next (length (branch t y)) (length (branch t (parent_at t y))) (length (before t x)) l g) ∙ f.1,
          )
        where
          next : (a b c : ℕ) → a ≡ suc b → c < b → a - 1 - c ≡ suc (b - 1 - c)
          next a b c q r = omega arith

  -- a block is on a branch where it stands there at its height
  pub on_by_height : (a x : ℕ) → a ≤ length t → (ltb (height t x) (length (reverse (branch t a))) && eqb (get_or (reverse (branch t a)) (height t x) 0) x) ≡ on t a x
  unfolding on
  on_by_height a x h = same_tests _ _ there back
    where
      long : length (reverse (branch t a)) ≡ length (branch t a)
      long = length-reverse (branch t a)

      there : (ltb (height t x) (length (reverse (branch t a))) && eqb (get_or (reverse (branch t a)) (height t x) 0) x) ≡ true → has (branch t a) x ≡ true
      there e =
          let b = and_parts (ltb (height t x) (length (reverse (branch t a)))) (eqb (get_or (reverse (branch t a)) (height t x) 0) x) e in
          let l = ltb-true (height t x) (length (reverse (branch t a))) b.0 in
          let g = long in
          subst (λ (z : ℕ). has (branch t a) z ≡ true) (sym (get_or-reverse (branch t a) (height t x) 0 (omega arith)) ∙ eqb-true (get_or (reverse (branch t a)) (height t x) 0) x b.1)
          (has_at (branch t a) (length (branch t a) - 1 - height t x) 0 (omega arith))

      back : has (branch t a) x ≡ true → (ltb (height t x) (length (reverse (branch t a))) && eqb (get_or (reverse (branch t a)) (height t x) 0) x) ≡ true
      back e =
          let f = above x a h (as_on e) in
          let g = long in
          let l = f.0 in
          and_from _ _ (lt-ltb (height t x) (length (reverse (branch t a))) (omega arith))
          (eq-eqb (get_or (reverse (branch t a)) (height t x) 0) x (get_or-reverse (branch t a) (height t x) 0 l ∙ f.1))
        where
          as_on : has (branch t a) x ≡ true → on t a x ≡ true
          as_on e = unfold on in e

  -- ---- the walk

  pub shared_here : (a p : ℕ) → p ≤ length t → on t a p ≡ true → last_shared t a p ≡ p
  unfolding last_shared
  shared_here a p h o =
      ap (λ (l : List ℕ). unwrap_or (find (on t a) l) 0) (branch_head t p h)
      ∙ ap (λ b. unwrap_or (cond b (Some p) (find (on t a) (before t p))) 0) o

  pub shared_below : (a p : ℕ) → 0 < p → p ≤ length t → on t a p ≡ false → last_shared t a p ≡ last_shared t a (parent_at t p)
  unfolding last_shared
  shared_below a p z h o =
      ap (λ (l : List ℕ). unwrap_or (find (on t a) l) 0) (branch-parent t p z h)
      ∙ ap (λ b. unwrap_or (cond b (Some p) (find (on t a) (branch t (parent_at t p)))) 0) o

  -- the walk stops at genesis
  pub above_genesis : (a p : ℕ) → on t a p ≡ false → 0 < p
  above_genesis a p o =
      elim (cases_eq 0 p) [
        | inl e ↦ absurd (true≢false (sym (on-genesis t a) ∙ ap (on t a) e ∙ o))
        | inr e ↦ omega arith
      ]
