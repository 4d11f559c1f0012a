-- What a try leaves on the tree, told by the path that it went.
use Rattle.std.proofs.Common.{◌≡◌, ℕ, ◌+◌, ◌<◌, ◌≤◌, Bool, true, false, ◌&&◌, ◌||◌, eqb, List, length, take, get_or, sym, ap, ◌∙◌, subst, inl, inr, ◌⊎◌, arith}
use Rattle.std.proofs.lemmas.Bool.{eqb-true, eq-eqb, and_parts, and_from, or_cases, or_left, or_right, false_from_ne_true}
use Rattle.std.proofs.lemmas.List.Folds.{list_any-append, list_any_more}
use Rattle.tree.specs.Branches.{Blocks, has, branch, on, parent_at, places, down_from}
use Rattle.tree.specs.State.{State, union_where}
use Rattle.tree.specs.laws.Sets.{InOrder, same_tests, filter_agree, joined_agree, joined_twice}
use Rattle.tree.specs.laws.Branches.{on-bounds, on-itself, on_trans, on_chain}
use Rattle.tree.specs.laws.Parents.{parent-kept, on-parent, on-rest}
use Rattle.tree.specs.laws.Above.{above, above-rest, OnWay, IsShared}
use Rattle.model.specs.Rules.{Rules}
use Rattle.model.specs.Valid.{branch_connects, first_to_fail}
use Rattle.model.specs.Faults.{IsFirstFault}
use Rattle.model.specs.Try.{fails_on, passes_on, state_after_try}
use Rattle.model.specs.laws.Candidates.{valid_from, valid_below, never_fails, below_first, same_first}

-- ---- sets

module _ (n : ℕ) (set : List ℕ) where
  -- tests that differ only on what is in the set give the same
  same_joined : (f g : ℕ → Bool) → ((x : ℕ) → x ≤ n → f x ≡ true → (has set x ≡ true) ⊎ (g x ≡ true)) → ((x : ℕ) → x ≤ n → g x ≡ true → (has set x ≡ true) ⊎ (f x ≡ true))
      → union_where (down_from n) set f ≡ union_where (down_from n) set g
  unfolding union_where
  same_joined f g there rollback =
      filter_agree (λ x. has set x || f x) (λ x. has set x || g x) n (λ x l. same_tests (has set x || f x) (has set x || g x) (one f g x (there x l)) (one g f x (rollback x l)))
    where
      one : (p q : ℕ → Bool) (x : ℕ) → (p x ≡ true → (has set x ≡ true) ⊎ (q x ≡ true)) → (has set x || p x) ≡ true → (has set x || q x) ≡ true
      one p q x h e =
          elim (or_cases (has set x) (p x) e) [
            | inl a ↦ or_left (has set x) (q x) a
            | inr a ↦ elim (h a) [ inl b ↦ or_left (has set x) (q x) b | inr b ↦ or_right (has set x) (q x) b ]
          ]

  -- the places of a list, and the next one
  pub joined_next : (l : List ℕ) (i d : ℕ) → i < length l
      → union_where (down_from n) (union_where (down_from n) set (λ x. has (take i l) x)) (λ x. eqb x (get_or l i d)) ≡ union_where (down_from n) set (λ x. has (take (i + 1) l) x)
  joined_next l i d h =
      joined_twice n set (λ x. has (take i l) x) (λ x. eqb x (get_or l i d))
      ∙ joined_agree n set (λ x. has (take i l) x || eqb x (get_or l i d)) (λ x. has (take (i + 1) l) x)
      (λ x k. ap (λ b. has (take i l) x || b) (turned x (get_or l i d)) ∙ sym (list_any_more (λ y. eqb y x) l i d h))
    where
      turned : (x y : ℕ) → eqb x y ≡ eqb y x
      turned x y = same_tests (eqb x y) (eqb y x) (λ e. eq-eqb y x (sym (eqb-true x y e))) (λ e. eq-eqb x y (sym (eqb-true y x e)))

-- ---- the blocks of a path

module _ {B : Type 0} (t : Blocks B) (f : ℕ) where
  -- what is on a branch above f or below it
  split : (q x : ℕ) → q ≤ length t → on t q f ≡ true → on t q x ≡ (has (above t q f) x || on t f x)
  unfolding on
  split q x l o = ap (λ (m : List ℕ). has m x) (above-rest t q f l o) ∙ list_any-append (λ y. eqb y x) (above t q f) (branch t f)

  pub above-on : (q x : ℕ) → q ≤ length t → on t q f ≡ true → has (above t q f) x ≡ true → on t q x ≡ true
  above-on q x l o h = split q x l o ∙ or_left (has (above t q f) x) (on t f x) h

  on-above : (q x : ℕ) → q ≤ length t → on t q f ≡ true → on t q x ≡ true → (on t f x ≡ true) ⊎ (has (above t q f) x ≡ true)
  on-above q x l o h = elim (or_cases (has (above t q f) x) (on t f x) (sym (split q x l o) ∙ h)) [ inl a ↦ inr a | inr a ↦ inl a ]

module _ {B I : Type 0} (r : Rules B I) (s : State B) (a p f : ℕ) (l : p ≤ length s.blocks) (shared : IsShared s.blocks a p f)
    (seen : (x : ℕ) → on s.blocks a x ≡ true → has s.seen x ≡ true) where
  abbrev t : Blocks B
  t = s.blocks

  was : (x : ℕ) → on t f x ≡ true → has s.seen x ≡ true
  was x o = seen x (on_trans t a f x shared.here o)

  -- a path whose blocks all connect
  pub way_noted : branch_connects r t p ≡ true → InOrder (length t) s.bad → record s { seen = union_where (places t) s.seen (λ x. has (above t p f) x) } ≡ state_after_try r s p
  unfolding state_after_try fails_on passes_on
  way_noted v order =
      ap (λ (b : List ℕ). record s { bad = b; seen = union_where (places t) s.seen (λ x. has (above t p f) x) })
      (sym order ∙ joined_agree (length t) s.bad (λ x. false) (λ x. first_to_fail r t x && on t p x)
      (λ x k. sym (false_from_ne_true _ (λ e. let b = and_parts (first_to_fail r t x) (on t p x) e in never_fails r t p x v b.1 b.0))))
      ∙ ap (λ (b : List ℕ). record s { bad = union_where (places t) s.bad (λ x. first_to_fail r t x && on t p x); seen = b })
      (same_joined (length t) s.seen (λ x. has (above t p f) x) (λ x. branch_connects r t x && on t p x)
      (λ x k h. let o = above-on t f p x l shared.there h in inr (and_from (branch_connects r t x) (on t p x) (valid_below r t p x v o) o))
      (λ x k h. elim (on-above t f p x l shared.there (and_parts (branch_connects r t x) (on t p x) h).1) [ inl o ↦ inl (was x o) | inr o ↦ inr o ]))

  -- a path with a block that is the first that doesn't connect: those below it, and itself
  module _ (c : ℕ) (rest : List ℕ) (first : IsFirstFault r t p c) (on_way : OnWay t f c rest) where
    abbrev down : ℕ
    down = parent_at t c

    under : (x : ℕ) → on t down x ≡ true → (on t c x ≡ true) × (x < c)
    under x o =
        let z : 0 < c = let g = on_way.above_f in omega arith in
        let b = (on-bounds t down x o).0 in
        let m = Rattle.tree.specs.laws.Parents.parent-below t c z on_way.kept in
        (on_trans t c down x (on-parent t c z on_way.kept) o, omega arith)

    -- each block under it has a valid branch
    good : (x : ℕ) → on t down x ≡ true → branch_connects r t x ≡ true
    good x o = valid_from r t x (λ y h.
        let u = under x o in
        let b = (on-bounds t x y h).0 in
        let v = u.1 in
        elim (below_first r t c y on_way.kept first.first (on_trans t c x y u.0 h)) [ inl e ↦ absurd (let g : c ≡ y = e in omega arith) | inr e ↦ e ])

    -- and a valid branch ends under it
    ends : (x : ℕ) → branch_connects r t x ≡ true → on t p x ≡ true → on t down x ≡ true
    ends x v o =
        let z : 0 < c = let g = on_way.above_f in omega arith in
        elim (on_chain t p c x first.on o) [
          | inl h ↦ on-rest t c z on_way.kept x h (λ e. never_fails r t x x v (on-itself t x (on-bounds t p x o).1) (subst (λ (y : ℕ). first_to_fail r t y ≡ true) e first.first))
          | inr h ↦ absurd (never_fails r t x c v h first.first)
        ]

    pub flaw_noted : record s { bad = union_where (places t) s.bad (λ x. eqb x c); seen = union_where (places t) s.seen (λ x. has rest x) } ≡ state_after_try r s p
    unfolding state_after_try fails_on passes_on
    flaw_noted =
        ap (λ (b : List ℕ). record s { bad = b; seen = union_where (places t) s.seen (λ x. has rest x) })
        (joined_agree (length t) s.bad (λ x. eqb x c) (λ x. first_to_fail r t x && on t p x)
        (λ x k. same_tests (eqb x c) (first_to_fail r t x && on t p x)
        (λ e. subst (λ (y : ℕ). (first_to_fail r t y && on t p y) ≡ true) (sym (eqb-true x c e)) (and_from (first_to_fail r t c) (on t p c) first.first first.on))
        (λ e. let b = and_parts (first_to_fail r t x) (on t p x) e in eq-eqb x c (same_first r t p x c b.1 first.on b.0 first.first))))
        ∙ ap (λ (b : List ℕ). record s { bad = union_where (places t) s.bad (λ x. first_to_fail r t x && on t p x); seen = b })
        (same_joined (length t) s.seen (λ x. has rest x) (λ x. branch_connects r t x && on t p x)
        (λ x k h. let o = on_down x h in inr (and_from (branch_connects r t x) (on t p x) (good x o) (on_trans t p c x first.on (under x o).0)))
        (λ x k h.
        let b = and_parts (branch_connects r t x) (on t p x) h in
        elim (on-above t f down x down-kept down_f (ends x b.0 b.1)) [
          | inl o ↦ inl (was x o)
          | inr o ↦ inr (ap (λ (m : List ℕ). has m x) rest-is ∙ o)
        ]))
      where
        down-kept : down ≤ length t
        down-kept = let g = on_way.above_f in parent-kept t c (omega arith) on_way.kept

        down_f : on t down f ≡ true
        down_f = on_way.on_parent

        rest-is : ◌≡◌ {A = List ℕ} rest (above t down f)
        rest-is = on_way.rest_is

        on_down : (x : ℕ) → has rest x ≡ true → on t down x ≡ true
        on_down x h = above-on t f down x down-kept down_f (ap (λ (m : List ℕ). has m x) (sym rest-is) ∙ h)
