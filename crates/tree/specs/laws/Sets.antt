-- Tests of all places, and the sets that they give.
use Rattle.std.proofs.Common.{◌≡◌, ℕ, zero, suc, ◌<◌, ◌≤◌, Bool, true, false, cond, ◌&&◌, ◌||◌, eqb, List, [], ◌∷◌, sym, refl, ap, ◌∙◌, subst, inl, inr, arith, Some, None}
use Rattle.std.specs.List.{list_any, list_all, filter, find}
use Rattle.std.specs.Option.{unwrap_or}
use Rattle.std.proofs.lemmas.Bool.{eqb-true, eq-eqb, ne_eqb, cases_Bool, cases_eq, or_cases, or_right, or_left, and_parts, and_from, and_cases, true≢false}
use Rattle.tree.specs.Branches.{down_from, has}
use Rattle.tree.specs.State.{union_where}

-- no test answers both
pub clash : (b : Bool) → b ≡ true → b ≡ false → ⊥
clash b t f = true≢false (sym t ∙ f)

-- two tests agree where each follows from the other
pub same_tests : (a b : Bool) → (a ≡ true → b ≡ true) → (b ≡ true → a ≡ true) → a ≡ b
same_tests true b f g = sym (f refl)
same_tests false true f g = g refl
same_tests false false f g = refl

pub or_false : (b : Bool) → (b || false) ≡ b
or_false true = refl
or_false false = refl

or_assoc : (a b c : Bool) → ((a || b) || c) ≡ (a || (b || c))
or_assoc true b c = refl
or_assoc false b c = refl

-- ---- of a list of places

pub has_here : (x : ℕ) (l : List ℕ) → has (x ∷ l) x ≡ true
has_here x l = or_left (eqb x x) (has l x) (eq-eqb x x refl)

pub has_there : (y x : ℕ) (l : List ℕ) → has l x ≡ true → has (y ∷ l) x ≡ true
has_there y x l h = or_right (eqb y x) (has l x) h

-- what passes for all of a list passes for each place of it
pub all_gives : (p : ℕ → Bool) (l : List ℕ) → list_all p l ≡ true → (x : ℕ) → has l x ≡ true → p x ≡ true
all_gives p [] a x h = absurd (true≢false (sym h))
all_gives p (y ∷ l) a x h =
    let b = and_parts (p y) (list_all p l) a in
    elim (or_cases (eqb y x) (has l x) h) [
      | inl e ↦ subst (λ (z : ℕ). p z ≡ true) (eqb-true y x e) b.0
      | inr r ↦ all_gives p l b.1 x r
    ]

pub all_from : (p : ℕ → Bool) (l : List ℕ) → ((x : ℕ) → has l x ≡ true → p x ≡ true) → list_all p l ≡ true
all_from p [] f = refl
all_from p (y ∷ l) f = and_from (p y) (list_all p l) (f y (has_here y l)) (all_from p l (λ x h. f x (has_there y x l h)))

-- where not all pass, one doesn't
pub all_fails : (p : ℕ → Bool) (l : List ℕ) → list_all p l ≡ false → (x : ℕ) × (has l x ≡ true) × (p x ≡ false)
all_fails p [] a = absurd (true≢false a)
all_fails p (y ∷ l) a =
    elim (and_cases (p y) (list_all p l) a) [
      | inl e ↦ (y, has_here y l, e)
      | inr e ↦ let w = all_fails p l e in (w.0, has_there y w.0 l w.1, w.2)
    ]

pub all_agree : (p q : ℕ → Bool) (l : List ℕ) → ((x : ℕ) → has l x ≡ true → p x ≡ q x) → list_all p l ≡ list_all q l
all_agree p q [] f = refl
all_agree p q (y ∷ l) f = ap (λ b. b && list_all p l) (f y (has_here y l)) ∙ ap (λ b. q y && b) (all_agree p q l (λ x h. f x (has_there y x l h)))

-- what a filter leaves was there, and passes
pub filter_gives : (p : ℕ → Bool) (l : List ℕ) (x : ℕ) → has (filter p l) x ≡ true → (has l x ≡ true) × (p x ≡ true)
filter_gives p [] x h = absurd (true≢false (sym h))
filter_gives p (y ∷ l) x h =
    elim (p y) as (λ b. p y ≡ b → has (cond b (y ∷ filter p l) (filter p l)) x ≡ true → (has (y ∷ l) x ≡ true) × (p x ≡ true)) [
      | true ↦ λ q e. elim (or_cases (eqb y x) (has (filter p l) x) e) [
        | inl w ↦ (or_left (eqb y x) (has l x) w, subst (λ (z : ℕ). p z ≡ true) (eqb-true y x w) q)
        | inr w ↦ let g = filter_gives p l x w in (has_there y x l g.0, g.1)
      ]
      | false ↦ λ q e. let g = filter_gives p l x e in (has_there y x l g.0, g.1)
    ] refl h

-- ---- of the places up to n

pub any_from : (p : ℕ → Bool) (n k : ℕ) → k ≤ n → p k ≡ true → list_any p (down_from n) ≡ true
unfolding down_from
any_from p zero k h e = or_left (p 0) false (subst (λ (z : ℕ). p z ≡ true) (omega arith) e)
any_from p (suc n) k h e =
    elim (cases_eq k (suc n)) [
      | inl f ↦ or_left (p (suc n)) (list_any p (down_from n)) (subst (λ (z : ℕ). p z ≡ true) f e)
      | inr f ↦ or_right (p (suc n)) (list_any p (down_from n)) (any_from p n k (omega arith) e)
    ]

pub any_gives : (p : ℕ → Bool) (n : ℕ) → list_any p (down_from n) ≡ true → (k : ℕ) × (k ≤ n) × (p k ≡ true)
unfolding down_from
any_gives p zero e = elim (or_cases (p 0) false e) [ inl f ↦ (0, omega arith, f) | inr f ↦ absurd (true≢false (sym f)) ]
any_gives p (suc n) e =
    elim (or_cases (p (suc n)) (list_any p (down_from n)) e) [
      | inl f ↦ (suc n, omega arith, f)
      | inr f ↦ let g = any_gives p n f in (g.0, (let l = g.1 in omega arith), g.2)
    ]

pub filter_agree : (p q : ℕ → Bool) (n : ℕ) → ((k : ℕ) → k ≤ n → p k ≡ q k) → filter p (down_from n) ≡ filter q (down_from n)
unfolding down_from
filter_agree p q zero f = ap (λ b. cond b (0 ∷ []) []) (f 0 (omega arith))
filter_agree p q (suc n) f =
    ap (λ b. cond b (suc n ∷ filter p (down_from n)) (filter p (down_from n))) (f (suc n) (omega arith))
    ∙ ap (λ (l : List ℕ). cond (q (suc n)) (suc n ∷ l) l) (filter_agree p q n (λ k h. f k (omega arith)))

-- the one place that passes is the one that is found
pub found_only : (p : ℕ → Bool) (n a : ℕ) → a ≤ n → p a ≡ true → ((b : ℕ) → b ≤ n → p b ≡ true → b ≡ a) → unwrap_or (find p (down_from n)) 0 ≡ a
unfolding down_from
found_only p zero a h e f = ap (λ b. unwrap_or (cond b (Some 0) None) 0) (subst (λ (z : ℕ). p z ≡ true) (omega arith) e) ∙ omega arith
found_only p (suc n) a h e f =
    elim (cases_Bool (p (suc n))) [
      | inl t ↦ ap (λ b. unwrap_or (cond b (Some (suc n)) (find p (down_from n))) 0) t ∙ f (suc n) (omega arith) t
      | inr t ↦
          let l : a ≤ n = elim (cases_eq a (suc n)) [ inl q ↦ absurd (clash (p (suc n)) (subst (λ (z : ℕ). p z ≡ true) q e) t) | inr q ↦ omega arith ] in
          ap (λ b. unwrap_or (cond b (Some (suc n)) (find p (down_from n))) 0) t ∙ found_only p n a l e (λ b m. f b (omega arith))
    ]

filter_none : (p : ℕ → Bool) (n x : ℕ) → n < x → has (filter p (down_from n)) x ≡ false
unfolding down_from
filter_none p zero x l = keep (p 0)
  where
    keep : (b : Bool) → has (cond b (0 ∷ []) []) x ≡ false
    keep true = ap (λ v. v || false) (ne_eqb 0 x (omega arith))
    keep false = refl
filter_none p (suc n) x l = keep (p (suc n)) (filter_none p n x (omega arith))
  where
    keep : (b : Bool) → has (filter p (down_from n)) x ≡ false → has (cond b (suc n ∷ filter p (down_from n)) (filter p (down_from n))) x ≡ false
    keep true h = ap (λ v. v || has (filter p (down_from n)) x) (ne_eqb (suc n) x (omega arith)) ∙ h
    keep false h = h

filter_one : (p : ℕ → Bool) (n x : ℕ) → x ≤ n → has (filter p (down_from n)) x ≡ p x
unfolding down_from
filter_one p zero x l = keep (p 0) ∙ ap p (omega arith)
  where
    keep : (b : Bool) → has (cond b (0 ∷ []) []) x ≡ b
    keep true = ap (λ v. v || false) (eq-eqb 0 x (omega arith))
    keep false = refl
filter_one p (suc n) x l =
    elim (cases_eq (suc n) x) [
      | inl e ↦ here (p (suc n)) e ∙ ap p e
      | inr e ↦ there (p (suc n)) e ∙ filter_one p n x (omega arith)
    ]
  where
    here : (b : Bool) → suc n ≡ x → has (cond b (suc n ∷ filter p (down_from n)) (filter p (down_from n))) x ≡ b
    here true e = ap (λ v. v || has (filter p (down_from n)) x) (eq-eqb (suc n) x e)
    here false e = filter_none p n x (omega arith)

    there : (b : Bool) → (suc n ≡ x → ⊥) → has (cond b (suc n ∷ filter p (down_from n)) (filter p (down_from n))) x ≡ has (filter p (down_from n)) x
    there true e = ap (λ v. v || has (filter p (down_from n)) x) (ne_eqb (suc n) x e)
    there false e = refl

-- a place is in the filtered ones exactly where it passes
pub has-filter : (p : ℕ → Bool) (n x : ℕ) → x ≤ n → has (filter p (down_from n)) x ≡ p x
has-filter p n x l = filter_one p n x l

pub has_filter-above : (p : ℕ → Bool) (n x : ℕ) → n < x → has (filter p (down_from n)) x ≡ false
has_filter-above p n x l = filter_none p n x l

-- each kept place is among all
pub has-places : (n x : ℕ) → x ≤ n → has (down_from n) x ≡ true
has-places n x l = any_from (λ y. eqb y x) n x l (eq-eqb x x refl)

module _ (n : ℕ) (set : List ℕ) where
  pub has-joined : (f : ℕ → Bool) (x : ℕ) → x ≤ n → has (union_where (down_from n) set f) x ≡ (has set x || f x)
  unfolding union_where
  has-joined f x h = filter_one (λ p. has set p || f p) n x h

  -- nothing else is in
  pub has_joined-above : (f : ℕ → Bool) (x : ℕ) → n < x → has (union_where (down_from n) set f) x ≡ false
  unfolding union_where
  has_joined-above f x h = filter_none (λ p. has set p || f p) n x h

  pub joined_agree : (f g : ℕ → Bool) → ((p : ℕ) → p ≤ n → f p ≡ g p) → union_where (down_from n) set f ≡ union_where (down_from n) set g
  unfolding union_where
  joined_agree f g e = filter_agree _ _ n (λ p h. ap (λ b. has set p || b) (e p h))

  pub joined_twice : (f g : ℕ → Bool) → union_where (down_from n) (union_where (down_from n) set f) g ≡ union_where (down_from n) set (λ p. f p || g p)
  unfolding union_where
  joined_twice f g = filter_agree _ _ n (λ p h. ap (λ b. b || g p) (filter_one (λ q. has set q || f q) n p h) ∙ or_assoc (has set p) (f p) (g p))

  -- what is in the set already adds nothing
  pub joined_within : (f : ℕ → Bool) → ((p : ℕ) → p ≤ n → f p ≡ true → has set p ≡ true) → union_where (down_from n) set f ≡ union_where (down_from n) set (λ p. false)
  unfolding union_where
  joined_within f h =
      filter_agree _ _ n (λ p l. same_tests _ _
      (λ e. or_left (has set p) false (elim (or_cases (has set p) (f p) e) [ inl a ↦ a | inr a ↦ h p l a ]))
      (λ e. or_left (has set p) (f p) (sym (or_false (has set p)) ∙ e)))

-- a set of kept places, each once, the newest first
abbrev pub InOrder : ℕ → List ℕ → Type 0
InOrder n set = union_where (down_from n) set (λ p. false) ≡ set

pub in_order-joined : (n : ℕ) (set : List ℕ) (f : ℕ → Bool) → InOrder n (union_where (down_from n) set f)
in_order-joined n set f = joined_twice n set f (λ p. false) ∙ joined_agree n set (λ p. f p || false) f (λ p l. or_false (f p))

-- one place more
module _ (n : ℕ) (set : List ℕ) (order : InOrder n set) where
  pub none_above : (x : ℕ) → n < x → has set x ≡ false
  none_above x h = ap (λ (l : List ℕ). has l x) (sym order) ∙ has_joined-above n set (λ p. false) x h

  pub joined_more : InOrder (suc n) set
  unfolding union_where down_from
  joined_more = ap (λ b. cond (b || false) (suc n ∷ filter (λ p. has set p || false) (down_from n)) (filter (λ p. has set p || false) (down_from n))) (none_above (suc n) (omega arith)) ∙ order

  -- which alone joins
  pub joined_new : (f : ℕ → Bool) → f (suc n) ≡ true → ((p : ℕ) → p ≤ n → f p ≡ true → has set p ≡ true) → union_where (down_from (suc n)) set f ≡ suc n ∷ set
  unfolding union_where down_from
  joined_new f e h =
      ap (λ b. cond b (suc n ∷ filter (λ p. has set p || f p) (down_from n)) (filter (λ p. has set p || f p) (down_from n))) (or_right (has set (suc n)) (f (suc n)) e)
      ∙ ap (λ (l : List ℕ). suc n ∷ l) (joined_within n set f h ∙ order)
