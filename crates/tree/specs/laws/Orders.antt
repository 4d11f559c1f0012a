-- Lists of places in order: two that have each place as often are one list.
use Rattle.std.proofs.Common.{◌≡◌, ℕ, zero, suc, ◌+◌, ◌<◌, ◌≤◌, Bool, true, false, cond, eqb, List, [], ◌∷◌, sym, refl, ap, ◌∙◌, subst, inl, inr, arith}
use Rattle.std.specs.List.{sum_by, filter}
use Rattle.std.proofs.lemmas.Bool.{cases_Bool, cases_eq, eqb-true, eq-eqb, ne_eqb, or_cases, false_from_ne_true, true≢false}
use Rattle.std.proofs.lemmas.List.Sums.{sum_by-cons}
use Rattle.tree.specs.Branches.{has, down_from}
use Rattle.tree.specs.Tips.{put_in, sort_places}
use Rattle.tree.specs.laws.Sets.{clash, has_here, has_there}

-- ---- how often a place stands in a list

abbrev pub one : ℕ → ℕ → ℕ
one x y = cond (eqb y x) 1 0

abbrev pub times : ℕ → List ℕ → ℕ
times x l = sum_by (one x) l

pub one_same : (x y : ℕ) → y ≡ x → one x y ≡ 1
one_same x y e = ap (λ b. cond {A = ℕ} b 1 0) (eq-eqb y x e)

pub one_other : (x y : ℕ) → (y ≡ x → ⊥) → one x y ≡ 0
one_other x y n = ap (λ b. cond {A = ℕ} b 1 0) (ne_eqb y x n)

pub times-has : (x : ℕ) (l : List ℕ) → 0 < times x l → has l x ≡ true
times-has x [] h = absurd (omega arith)
times-has x (y ∷ l) h =
    elim (cases_eq y x) [
      | inl e ↦ subst (λ (z : ℕ). has (y ∷ l) z ≡ true) e (has_here y l)
      | inr e ↦ let c = sum_by-cons (one x) y l in let o = one_other x y e in has_there y x l (times-has x l (omega arith))
    ]

pub has-times : (x : ℕ) (l : List ℕ) → has l x ≡ true → 0 < times x l
has-times x [] h = absurd (true≢false (sym h))
has-times x (y ∷ l) h =
    let c = sum_by-cons (one x) y l in
    elim (or_cases (eqb y x) (has l x) h) [
      | inl e ↦ let o = one_same x y (eqb-true y x e) in omega arith
      | inr e ↦ let t = has-times x l e in omega arith
    ]

-- ---- of the places that pass

pub times_filter-above : (p : ℕ → Bool) (n x : ℕ) → n < x → times x (filter p (down_from n)) ≡ 0
unfolding down_from
times_filter-above p zero x h = keep (p 0)
  where
    keep : (b : Bool) → times x (cond b (0 ∷ []) []) ≡ 0
    keep true = sum_by-cons (one x) 0 [] ∙ (let o = one_other x 0 (omega arith) in omega arith)
    keep false = refl
times_filter-above p (suc n) x h = keep (p (suc n)) (times_filter-above p n x (omega arith))
  where
    keep : (b : Bool) → times x (filter p (down_from n)) ≡ 0 → times x (cond b (suc n ∷ filter p (down_from n)) (filter p (down_from n))) ≡ 0
    keep true e = sum_by-cons (one x) (suc n) (filter p (down_from n)) ∙ (let o = one_other x (suc n) (omega arith) in omega arith)
    keep false e = e

pub times-filter : (p : ℕ → Bool) (n x : ℕ) → x ≤ n → times x (filter p (down_from n)) ≡ cond (p x) 1 0
unfolding down_from
times-filter p zero x h = keep (p 0) ∙ ap (λ (z : ℕ). cond {A = ℕ} (p z) 1 0) (omega arith)
  where
    keep : (b : Bool) → times x (cond b (0 ∷ []) []) ≡ cond b 1 0
    keep true = sum_by-cons (one x) 0 [] ∙ (let o = one_same x 0 (omega arith) in omega arith)
    keep false = refl
times-filter p (suc n) x h =
    elim (cases_eq (suc n) x) [
      | inl e ↦ here (p (suc n)) e ∙ ap (λ (z : ℕ). cond {A = ℕ} (p z) 1 0) e
      | inr e ↦ there (p (suc n)) e ∙ times-filter p n x (omega arith)
    ]
  where
    here : (b : Bool) → suc n ≡ x → times x (cond b (suc n ∷ filter p (down_from n)) (filter p (down_from n))) ≡ cond b 1 0
    here true e = sum_by-cons (one x) (suc n) (filter p (down_from n)) ∙ (let o = one_same x (suc n) e in let z = times_filter-above p n x (omega arith) in omega arith)
    here false e = times_filter-above p n x (omega arith)

    there : (b : Bool) → (suc n ≡ x → ⊥) → times x (cond b (suc n ∷ filter p (down_from n)) (filter p (down_from n))) ≡ times x (filter p (down_from n))
    there true e = sum_by-cons (one x) (suc n) (filter p (down_from n)) ∙ (let o = one_other x (suc n) e in omega arith)
    there false e = refl

-- ---- lists in order

-- no place goes before one that stands before it
abbrev pub IsOrdered : (ℕ → ℕ → Bool) → List ℕ → Type 0
IsOrdered first [] = Unit {0}
IsOrdered first (p ∷ ps) = ((q : ℕ) → has ps q ≡ true → first q p ≡ false) × IsOrdered first ps

module _ (first : ℕ → ℕ → Bool) where
  -- where only equal places tie
  module _ (n : ℕ) (tie : (p q : ℕ) → p ≤ n → q ≤ n → first p q ≡ false → first q p ≡ false → p ≡ q) where
    pub same_order : (l m : List ℕ) → ((q : ℕ) → has l q ≡ true → q ≤ n) → IsOrdered first l → IsOrdered first m → ((x : ℕ) → times x l ≡ times x m) → l ≡ m
    same_order [] [] b o w f = refl
    same_order [] (y ∷ m) b o w f = let e = f y in let h = has-times y (y ∷ m) (has_here y m) in absurd (omega arith)
    same_order (x ∷ l) [] b o w f = let e = f x in let h = has-times x (x ∷ l) (has_here x l) in absurd (omega arith)
    same_order (x ∷ l) (y ∷ m) b o w f =
        ap (λ (z : ℕ). z ∷ l) heads ∙ ap (λ (r : List ℕ). y ∷ r) (same_order l m (λ q h. b q (has_there x q l h)) o.1 w.1 rest)
      where
        in_both : (z : ℕ) → has (x ∷ l) z ≡ true → has (y ∷ m) z ≡ true
        in_both z h = times-has z (y ∷ m) (let e = f z in let t = has-times z (x ∷ l) h in omega arith)

        heads : x ≡ y
        heads =
            elim (cases_eq x y) [
              | inl e ↦ e
              | inr e ↦
                  let c = sum_by-cons (one x) x l in
                  let c2 = sum_by-cons (one x) y m in
                  let d = sum_by-cons (one y) x l in
                  let d2 = sum_by-cons (one y) y m in
                  let s = one_same x x refl in
                  let s2 = one_same y y refl in
                  let t = one_other x y (λ q. e (sym q)) in
                  let t2 = one_other y x e in
                  let fx = f x in
                  let fy = f y in
                  let in_m : has m x ≡ true = times-has x m (omega arith) in
                  let in_l : has l y ≡ true = times-has y l (omega arith) in
                  tie x y (b x (has_here x l)) (b y (has_there x y l in_l)) (w.0 x in_m) (o.0 y in_l)
            ]

        rest : (z : ℕ) → times z l ≡ times z m
        rest z =
            let c = sum_by-cons (one z) x l in
            let d = sum_by-cons (one z) y m in
            let e : one z x ≡ one z y = ap (one z) heads in
            let g = f z in
            omega arith

  -- ---- putting places in order

  times-put : (x p : ℕ) (l : List ℕ) → times x (put_in first p l) ≡ one x p + times x l
  unfolding put_in
  times-put x p [] = sum_by-cons (one x) p []
  times-put x p (q ∷ l) =
      elim (first p q) as (λ b. times x (cond b (p ∷ q ∷ l) (q ∷ put_in first p l)) ≡ one x p + times x (q ∷ l)) [
        | true ↦ sum_by-cons (one x) p (q ∷ l)
        | false ↦
            let a = sum_by-cons (one x) q (put_in first p l) in
            let b = times-put x p l in
            let c = sum_by-cons (one x) q l in
            omega arith
      ]

  pub times-ordered : (x : ℕ) (l : List ℕ) → times x (sort_places first l) ≡ times x l
  unfolding sort_places
  times-ordered x [] = refl
  times-ordered x (p ∷ l) =
      let a = times-put x p (sort_places first l) in
      let b = times-ordered x l in
      let c = sum_by-cons (one x) p l in
      omega arith

  module _ (asym : (p q : ℕ) → first p q ≡ true → first q p ≡ false) (trans : (p q r : ℕ) → first p q ≡ true → first q r ≡ true → first p r ≡ true) where
    put_there : (p q : ℕ) (l : List ℕ) → first p q ≡ true → put_in first p (q ∷ l) ≡ p ∷ q ∷ l
    unfolding put_in
    put_there p q l e = ap (λ b. cond b (p ∷ q ∷ l) (q ∷ put_in first p l)) e

    put_later : (p q : ℕ) (l : List ℕ) → first p q ≡ false → put_in first p (q ∷ l) ≡ q ∷ put_in first p l
    unfolding put_in
    put_later p q l e = ap (λ b. cond b (p ∷ q ∷ l) (q ∷ put_in first p l)) e

    order-put : (p : ℕ) (l : List ℕ) → IsOrdered first l → IsOrdered first (put_in first p l)
    unfolding put_in
    order-put p [] o = (λ q h. absurd (true≢false (sym h)), tt)
    order-put p (q ∷ l) o =
        elim (cases_Bool (first p q)) [
          | inl e ↦ subst (IsOrdered first) (sym (put_there p q l e)) (
            λ y h. elim (or_cases (eqb q y) (has l y) h) [
              | inl f ↦ subst (λ (z : ℕ). first z p ≡ false) (eqb-true q y f) (asym p q e)
              | inr f ↦ false_from_ne_true (first y p) (λ t. clash (first y q) (trans y p q t e) (o.0 y f))
            ],
            o,
          )
          | inr e ↦ subst (IsOrdered first) (sym (put_later p q l e)) (
            λ y h. elim (cases_eq p y) [
              | inl f ↦ subst (λ (z : ℕ). first z q ≡ false) f e
              | inr f ↦
                  let a = times-put y p l in
                  let b = has-times y (put_in first p l) h in
                  let c = one_other y p f in
                  o.0 y (times-has y l (omega arith))
            ],
            order-put p l o.1,
          )
        ]

    pub order-ordered : (l : List ℕ) → IsOrdered first (sort_places first l)
    unfolding sort_places
    order-ordered [] = tt
    order-ordered (p ∷ l) = order-put p (sort_places first l) (order-ordered l)
