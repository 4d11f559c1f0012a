-- The tips: the leaves and the active block, each once, and what is on the active branch.
use Rattle.std.proofs.Common.{◌≡◌, ℕ, suc, ◌+◌, ◌<◌, ◌≤◌, Bool, true, false, cond, ◌&&◌, ◌||◌, eqb, ltb, List, [], ◌∷◌, ◌++◌, length, get_or, sym, refl, ap, ◌∙◌, inl, inr, ◌⊎◌, arith}
use Rattle.std.specs.Prelude.{nat_eq}
use Rattle.std.specs.List.{filter, list_any, IsDistinct, AllByRecursion}
use Rattle.std.proofs.lemmas.Bool.{cases_eq, eqb-true, eq-eqb, ne_eqb, lt-ltb, le-ltb, ltb-true, cases_lt, cases_order, or_cases, or_left, or_right, and_parts, and_from, false_from_ne_true, true≢false}
use Rattle.std.proofs.lemmas.List.Sums.{sum_by-cons, sum_by-append}
use Rattle.tree.specs.Branches.{Blocks, has, places, height}
use Rattle.tree.specs.inside.Leaves.{AreLeaves, is_leaf}
use Rattle.tree.specs.Tips.{is_tip, goes_first, sort_places}
use Rattle.tree.specs.laws.Orders.{one, times, has-times, one_same, one_other, times-filter, times_filter-above, IsOrdered, same_order, times-ordered, order-ordered}

-- ---- each leaf stands once in the list

-- a place that passes stands once, and no other, of those up to n
abbrev Once : ℕ → (ℕ → Bool) → ℕ → ℕ → Type 0
Once n passes x m = (x ≤ n → m ≡ cond (passes x) 1 0) × (n < x → m ≡ 0)

goes : (h : ℕ → ℕ) (p q : ℕ) → (ltb (h q) (h p) || (eqb (h p) (h q) && ltb p q)) ≡ true → (h q < h p) ⊎ ((h p ≡ h q) × (p < q))
goes h p q e =
    elim (or_cases (ltb (h q) (h p)) (eqb (h p) (h q) && ltb p q) e) [
      | inl f ↦ inl (ltb-true (h q) (h p) f)
      | inr f ↦ let b = and_parts (eqb (h p) (h q)) (ltb p q) f in inr (eqb-true (h p) (h q) b.0, ltb-true p q b.1)
    ]

goes-from : (h : ℕ → ℕ) (p q : ℕ) → (h q < h p) ⊎ ((h p ≡ h q) × (p < q)) → (ltb (h q) (h p) || (eqb (h p) (h q) && ltb p q)) ≡ true
goes-from h p q (inl f) = or_left (ltb (h q) (h p)) (eqb (h p) (h q) && ltb p q) (lt-ltb (h q) (h p) f)
goes-from h p q (inr f) = or_right (ltb (h q) (h p)) (eqb (h p) (h q) && ltb p q) (and_from (eqb (h p) (h q)) (ltb p q) (eq-eqb (h p) (h q) f.0) (lt-ltb p q f.1))

-- of places that each stand once
none_equal : (y : ℕ) (l : List ℕ) → AllByRecursion (λ z. nat_eq y z ≡ false) l → list_any (nat_eq y) l ≡ false
none_equal y [] a = refl
none_equal y (z ∷ l) a = ap (λ b. b || list_any (nat_eq y) l) a.0 ∙ none_equal y l a.1

times-once : (x : ℕ) (l : List ℕ) → IsDistinct nat_eq l → times x l ≡ cond (list_any (nat_eq x) l) 1 0
unfolding IsDistinct
times-once x [] d = refl
times-once x (y ∷ l) d =
    let c = sum_by-cons (one x) y l in
    let rest = times-once x l d.1 in
    elim (cases_eq x y) [
      | inl e ↦
          let a = one_same x y (sym e) in
          let none : list_any (nat_eq x) l ≡ false = ap (λ (z : ℕ). list_any (nat_eq z) l) e ∙ none_equal y l d.0 in
          let zero : times x l ≡ 0 = rest ∙ ap (λ b. cond {A = ℕ} b 1 0) none in
          let r : times x (y ∷ l) ≡ 1 = omega arith in
          r ∙ sym (ap (λ b. cond {A = ℕ} (b || list_any (nat_eq x) l) 1 0) (eq-eqb x y e))
      | inr e ↦
          let a = one_other x y (λ q. e (sym q)) in
          let r : times x (y ∷ l) ≡ times x l = omega arith in
          r ∙ rest ∙ sym (ap (λ b. cond {A = ℕ} (b || list_any (nat_eq x) l) 1 0) (ne_eqb x y e))
    ]

module _ {B : Type 0} where
  once-leaf : (t : Blocks B) (l : List ℕ) (x : ℕ) → AreLeaves t l → Once (length t) (is_leaf t) x (times x l)
  once-leaf t l x are = (
    λ h. times-once x l are.once ∙ ap (λ b. cond {A = ℕ} b 1 0) (are.all x ∙ ap (λ b. b && is_leaf t x) (lt-ltb x (suc (length t)) (omega arith))),
    λ h. times-once x l are.once ∙ ap (λ b. cond {A = ℕ} b 1 0) (are.all x ∙ ap (λ b. b && is_leaf t x) (le-ltb x (suc (length t)) (omega arith))),
  )

  -- each is kept
  pub leaf-kept : (t : Blocks B) (l : List ℕ) (x : ℕ) → AreLeaves t l → has l x ≡ true → x ≤ length t
  leaf-kept t l x are h =
      elim (cases_lt (length t) x) [
        | inl g ↦ let n = has-times x l h in let z = (once-leaf t l x are).1 g in absurd (omega arith)
        | inr g ↦ g
      ]

  -- ---- the tips

  -- the leaves, and the active block if it is none
  abbrev pub all_tips : List ℕ → Blocks B → ℕ → List ℕ
  all_tips l t a = l ++ cond (is_leaf t a) [] (a ∷ [])

  extra : (t : Blocks B) (a x : ℕ) → times x (cond (is_leaf t a) [] (a ∷ [])) ≡ cond (is_leaf t a) 0 (one x a)
  extra t a x = by (is_leaf t a)
    where
      by : (b : Bool) → times x (cond b [] (a ∷ [])) ≡ cond b 0 (one x a)
      by true = refl
      by false = sum_by-cons (one x) a [] ∙ omega arith

  pub once-tip : (t : Blocks B) (l : List ℕ) (a x : ℕ) → AreLeaves t l → a ≤ length t → times x (all_tips l t a) ≡ times x (filter (is_tip t a) (places t))
  unfolding is_tip
  once-tip t l a x are k =
      let s = sum_by-append (one x) l (cond (is_leaf t a) [] (a ∷ [])) in
      let w = extra t a x in
      let f = once-leaf t l x are in
      elim (cases_eq a x) [
        | inl e ↦
            let c = f.0 (omega arith) in
            let d = one_same x a e in
            let g = times-filter (is_tip t a) (length t) x (omega arith) in
            let h : is_tip t a x ≡ true = or_left (eqb x a) (is_leaf t x) (eq-eqb x a (sym e)) in
            let v : times x l ≡ cond (is_leaf t a) 1 0 = c ∙ ap (λ (z : ℕ). cond {A = ℕ} (is_leaf t z) 1 0) (sym e) in
            let u : times x (filter (is_tip t a) (places t)) ≡ 1 = g ∙ ap (λ b. cond {A = ℕ} b 1 0) h in
            let both = own (is_leaf t a) (one x a) d in
            omega arith
        | inr e ↦
            let d = one_other x a e in
            let n = none (is_leaf t a) (one x a) d in
            elim (cases_lt (length t) x) [
              | inl h ↦ let c = f.1 h in let g = times_filter-above (is_tip t a) (length t) x h in omega arith
              | inr h ↦
                  let c = f.0 h in
                  let g = times-filter (is_tip t a) (length t) x h in
                  let i : is_tip t a x ≡ is_leaf t x = ap (λ b. b || is_leaf t x) (ne_eqb x a (λ q. e (sym q))) in
                  let j : times x (filter (is_tip t a) (places t)) ≡ times x l = g ∙ ap (λ b. cond {A = ℕ} b 1 0) i ∙ sym c in
                  omega arith
            ]
      ]
    where
      own : (b : Bool) (n : ℕ) → n ≡ 1 → cond b 1 0 + cond b 0 n ≡ 1
      own true n e = omega arith
      own false n e = omega arith

      none : (b : Bool) (n : ℕ) → n ≡ 0 → cond b 0 n ≡ 0
      none true n e = refl
      none false n e = e

  -- ---- their order

  module _ (t : Blocks B) where
    first-true : (p q : ℕ) → goes_first t p q ≡ true → (height t q < height t p) ⊎ ((height t p ≡ height t q) × (p < q))
    unfolding goes_first
    first-true p q e = goes (height t) p q e

    first-from : (p q : ℕ) → (height t q < height t p) ⊎ ((height t p ≡ height t q) × (p < q)) → goes_first t p q ≡ true
    unfolding goes_first
    first-from p q e = goes-from (height t) p q e

    pub first-asym : (p q : ℕ) → goes_first t p q ≡ true → goes_first t q p ≡ false
    first-asym p q e =
        false_from_ne_true (goes_first t q p) (λ f.
        let a = first-true p q e in
        let b = first-true q p f in
        let z : ⊥ = omega arith in z)

    pub first_trans : (p q r : ℕ) → goes_first t p q ≡ true → goes_first t q r ≡ true → goes_first t p r ≡ true
    first_trans p q r e f =
        let a = first-true p q e in
        let b = first-true q r f in
        first-from p r (elim (cases_lt (height t r) (height t p)) [
          | inl h ↦ inl h
          | inr h ↦ inr (omega arith, omega arith)
        ])

    pub first_tie : (p q : ℕ) → goes_first t p q ≡ false → goes_first t q p ≡ false → p ≡ q
    first_tie p q e f =
        elim (cases_order (height t p) (height t q)) [
          | inr (inl h) ↦ absurd (true≢false (sym (first-from q p (inl h)) ∙ f))
          | inr (inr h) ↦ absurd (true≢false (sym (first-from p q (inl h)) ∙ e))
          | inl h ↦ elim (cases_order p q) [
            | inl g ↦ g
            | inr (inl g) ↦ absurd (true≢false (sym (first-from p q (inr (h, g))) ∙ e))
            | inr (inr g) ↦ absurd (true≢false (sym (first-from q p (inr (sym h, g))) ∙ f))
          ]
        ]

    -- places in order that are the tips, each once, are the tips in their order
    pub tips_in_order : (leaves : List ℕ) (a : ℕ) (l : List ℕ) → AreLeaves t leaves → a ≤ length t → ((q : ℕ) → has l q ≡ true → q ≤ length t) → IsOrdered (goes_first t) l → ((x : ℕ) → times x l ≡ times x (all_tips leaves t a))
        → l ≡ sort_places (goes_first t) (filter (is_tip t a) (places t))
    tips_in_order leaves a l are k b up f =
        same_order (goes_first t) (length t) (λ p q h g. first_tie p q) l (sort_places (goes_first t) (filter (is_tip t a) (places t))) b up
        (order-ordered (goes_first t) first-asym first_trans (filter (is_tip t a) (places t)))
        (λ x. f x ∙ once-tip t leaves a x are k ∙ sym (times-ordered (goes_first t) x (filter (is_tip t a) (places t))))
