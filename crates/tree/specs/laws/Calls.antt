-- The calls of `precious` as a list in which each block stands once, where its last call put it.
use Rattle.std.proofs.Common.{◌≡◌, ℕ, suc, ◌<◌, ◌↔◌, Bool, true, false, cond, not, ◌||◌, eqb, List, [], ◌∷◌, length, Option, Some, sym, refl, ap, ◌∙◌, subst, inl, inr, arith}
use Rattle.std.specs.List.{filter, find}
use Rattle.std.proofs.lemmas.Bool.{eqb-true, eq-eqb, ne_eqb, cases_eq, cases_Bool, or_cases, true≢false}
use Rattle.tree.specs.Branches.{has}
use Rattle.tree.specs.State.{rank_in}
use Rattle.tree.specs.laws.Ranks.{rank_last, rank_other, rank-bound}

-- the block that is called is taken out of the list, if it is there, and stands first
abbrev pub called_once : List ℕ → List ℕ
called_once [] = []
called_once (x ∷ earlier) = x ∷ filter (λ y. not (eqb y x)) (called_once earlier)

-- of two blocks, the one that stands first
abbrev pub first_called : List ℕ → ℕ → ℕ → Option ℕ
first_called calls a b = find (λ x. eqb x a || eqb x b) (called_once calls)

find-filter : (p q : ℕ → Bool) (l : List ℕ) → ((y : ℕ) → p y ≡ true → q y ≡ true) → find p (filter q l) ≡ find p l
find-filter p q [] f = refl
find-filter p q (y ∷ l) f =
    elim (cases_Bool (p y)) [
      | inl e ↦ ap (λ b. find p (cond b (y ∷ filter q l) (filter q l))) (f y e) ∙ found y (filter q l) e ∙ sym (found y l e)
      | inr e ↦ skipped (q y) e ∙ find-filter p q l f ∙ sym (passed y l e)
    ]
  where
    found : (z : ℕ) (m : List ℕ) → p z ≡ true → find p (z ∷ m) ≡ Some z
    found z m e = ap (λ b. cond b (Some z) (find p m)) e

    passed : (z : ℕ) (m : List ℕ) → p z ≡ false → find p (z ∷ m) ≡ find p m
    passed z m e = ap (λ b. cond b (Some z) (find p m)) e

    skipped : (b : Bool) → p y ≡ false → find p (cond b (y ∷ filter q l) (filter q l)) ≡ find p (filter q l)
    skipped true e = passed y (filter q l) e
    skipped false e = refl

-- a block that was called later stands before the other
pub later-first : (calls : List ℕ) (a b : ℕ) → has calls a ≡ true → has calls b ≡ true → (a ≡ b → ⊥)
    → (rank_in calls b < rank_in calls a) ↔ (first_called calls a b ≡ Some a)
later-first [] a b ha hb n = absurd (true≢false (sym ha))
later-first (x ∷ l) a b ha hb n =
    elim (cases_eq x a) [
      | inl e ↦
          let ra : rank_in (x ∷ l) a ≡ suc (length l) = subst (λ (z : ℕ). rank_in (x ∷ l) z ≡ suc (length l)) e (rank_last l x) in
          let rb = rank_other l x b (λ q. n (sym e ∙ q)) in
          let most = rank-bound l b in
          (λ less. here true (ap (λ v. v || eqb x b) (eq-eqb x a e)) ∙ ap (λ (z : ℕ). Some z) e, λ f. omega arith)
      | inr na ↦ elim (cases_eq x b) [
        | inl e ↦
            let rb : rank_in (x ∷ l) b ≡ suc (length l) = subst (λ (z : ℕ). rank_in (x ∷ l) z ≡ suc (length l)) e (rank_last l x) in
            let ra = rank_other l x a na in
            let most = rank-bound l a in
            (λ less. absurd (omega arith), λ f. absurd (na (some-is (sym (here true (ap (λ v. v || eqb x b) (ne_eqb x a na) ∙ eq-eqb x b e)) ∙ f))))
        | inr nb ↦
            let ra = rank_other l x a na in
            let rb = rank_other l x b nb in
            let rest = later-first l a b (old a na ha) (old b nb hb) n in
            let same : first_called (x ∷ l) a b ≡ first_called l a b =
            here false (ap (λ v. v || eqb x b) (ne_eqb x a na) ∙ ne_eqb x b nb)
            ∙ find-filter (λ y. eqb y a || eqb y b) (λ y. not (eqb y x)) (called_once l) (λ y p. others y p na nb) in
            (λ less. same ∙ rest.0 (omega arith), λ f. let less = rest.1 (sym same ∙ f) in omega arith)
      ]
    ]
  where
    here : (v : Bool) → (eqb x a || eqb x b) ≡ v → first_called (x ∷ l) a b ≡ cond v (Some x) (find (λ y. eqb y a || eqb y b) (filter (λ y. not (eqb y x)) (called_once l)))
    here v e = ap (λ w. cond w (Some x) (find (λ y. eqb y a || eqb y b) (filter (λ y. not (eqb y x)) (called_once l)))) e

    some-is : {y z : ℕ} → ◌≡◌ {A = Option ℕ} (Some y) (Some z) → y ≡ z
    some-is e = cc

    old : (y : ℕ) → (x ≡ y → ⊥) → has (x ∷ l) y ≡ true → has l y ≡ true
    old y m h = elim (or_cases (eqb x y) (has l y) h) [ inl q ↦ absurd (m (eqb-true x y q)) | inr q ↦ q ]

    others : (y : ℕ) → (eqb y a || eqb y b) ≡ true → (x ≡ a → ⊥) → (x ≡ b → ⊥) → not (eqb y x) ≡ true
    others y p na nb =
        ap not (ne_eqb y x (λ q. elim (or_cases (eqb y a) (eqb y b) p) [
          | inl e ↦ na (sym q ∙ eqb-true y a e)
          | inr e ↦ nb (sym q ∙ eqb-true y b e)
        ]))
