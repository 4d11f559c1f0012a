-- A search in a list in order, and the set of the list's elements.
use Rattle.std.proofs.Common.{◌≡◌, ℕ, ◌≤◌, Bool, true, false, ◌||◌, List, [], ◌∷◌, length, get_or, Result, Ok, Err, refl, sym, ap, ◌∙◌, inl, inr, arith}
use mathlib.Core.Bool.{true≢false}
use Rattle.std.specs.declared.cmp.Ordering.{Ordering}
use Rattle.std.specs.declared.cmp.Ordering.TheVariants.{Less, Greater}
use Rattle.std.specs.Ordering.{is_eq, eq_by_cmp, ordering_reverse}
use Rattle.std.specs.Cmp.{IsTotalOrder, Equal-is}
use Rattle.std.specs.Bool.{Decides}
use Rattle.std.specs.Result.{is_ok}
use Rattle.std.specs.List.{insert, list_all}
use Rattle.std.specs.List.Sorted.{IsSorted, IsStrictlySortedBy, IsPermutation, IsSearchInRange, IsBinarySearchResult}
use Rattle.std.specs.FinSet as set
use Rattle.signatures.specs.Triple.{Triple, triple_cmp}
use Rattle.signatures.specs.laws.Order.{triple_cmp-total, triple_cmp-exact}
use Rattle.signatures.proofs.Once.{sorted_from_strict, strict_insert}
use Rattle.std.specs.FinSet.{FinSet, IsAntisymmetric}
use Rattle.std.proofs.lemmas.Bool.{cases_lt, and_parts, and_from}
use Rattle.std.proofs.lemmas.Cmp.{tied_back, tied_itself}
use Rattle.std.proofs.lemmas.List.Folds.{list_any_at, list_any_none}
use Rattle.std.proofs.lemmas.List.Sorted.{searchable_from_sorted, list_any-IsPermutation, IsPermutation-insert}

module _ {K : Type 0} {R : K → K → Ordering} (o : IsTotalOrder R) where
  below : (x k : K) → R x k ≡ Less → R k x ≡ Greater
  below x k h = o.antisymm k x ∙ ap ordering_reverse h

  above : (x k : K) → R x k ≡ Greater → R k x ≡ Less
  above x k h = o.antisymm k x ∙ ap ordering_reverse h

  -- a search's answer says whether the element is in the set
  pub is_ok-search : (xs : List K) (k : K) (r : Result ℕ ℕ) → IsSorted R xs → IsSearchInRange r (length xs) → IsBinarySearchResult (λ x. R x k) xs r → is_ok r ≡ set.contains (set.from_list {R = R} xs) k
  is_ok-search xs k (Ok at) sorted in_range is =
      sym (set.contains-from_list o xs k ∙ list_any_at (eq_by_cmp R k) xs at k in_range (ap is_eq (tied_back o (get_or xs at k) k (is k))))
  is_ok-search xs k (Err at) sorted in_range is =
      let parts = is (searchable_from_sorted o (λ x. x) xs k sorted) in
      sym (set.contains-from_list o xs k ∙ list_any_none (eq_by_cmp R k) xs (λ i d lt. elim (cases_lt i at) [
        | inl low ↦ ap is_eq (below _ _ (parts.0 i d (omega arith) low))
        | inr high ↦ ap is_eq (above _ _ (parts.1 i d high lt))
      ]))

  -- an element at the place where a search missed it keeps the order
  pub strict-missed : (xs : List K) (k : K) (at : ℕ) → IsStrictlySortedBy R xs → at ≤ length xs → IsBinarySearchResult (λ x. R x k) xs (Err at) → IsStrictlySortedBy R (insert xs at k)
  strict-missed xs k at strict in_range is =
      let parts = is (searchable_from_sorted o (λ x. x) xs k (sorted_from_strict o xs strict)) in
      strict_insert o at xs k strict in_range (λ i d h. parts.0 i d (omega arith) h) (λ i d low h. parts.1 i d low h)

  module _ (exact : IsAntisymmetric R) where
    -- a list's set doesn't depend on its order
    pub from_list-IsPermutation : (xs ys : List K) → IsPermutation xs ys → set.from_list {R = R} xs ≡ set.from_list ys
    from_list-IsPermutation xs ys p = set.same_set o exact _ _ (λ q. set.contains-from_list o xs q ∙ list_any-IsPermutation (eq_by_cmp R q) xs ys p ∙ sym (set.contains-from_list o ys q))

    pub from_list-insert : (xs : List K) (at : ℕ) (k : K) → set.from_list {R = R} (insert xs at k) ≡ set.insert (set.from_list xs) k
    from_list-insert xs at k = sym (from_list-IsPermutation (k ∷ xs) (insert xs at k) (IsPermutation-insert xs at k))

    -- what is there already changes nothing
    pub insert_again : (s : FinSet R) (k : K) → set.contains s k ≡ true → set.insert s k ≡ s
    insert_again s k h = set.same_set o exact _ _ (λ q. set.contains-insert o s k q ∙ one q (eq_by_cmp R q k) refl)
      where
        one : (q : K) (b : Bool) → eq_by_cmp R q k ≡ b → (b || set.contains s q) ≡ set.contains s q
        one q true e = sym h ∙ set.contains_tied o s q k ((Equal-is (R q k)).0 e)
        one q false e = refl

-- each element of a list passes a test exactly where each member of the list's set does
pub all_members : (xs : List Triple) (p : Triple → Bool) → Decides (list_all p xs) ((t : Triple) → set.contains (set.from_list {R = triple_cmp} xs) t ≡ true → p t ≡ true)
all_members [] p = (λ _ t is. absurd (true≢false (sym is ∙ set.contains-empty triple_cmp t)), λ _. refl)
all_members (x ∷ xs) p =
    let o = triple_cmp-total in
    let insert = λ (t : Triple). set.contains-insert o (set.from_list {R = triple_cmp} xs) x t in
    let from : (t : Triple) (b : Bool) → eq_by_cmp triple_cmp t x ≡ b → p x ≡ true → ((u : Triple) → set.contains (set.from_list {R = triple_cmp} xs) u ≡ true → p u ≡ true) → (b || set.contains (set.from_list {R = triple_cmp} xs) t) ≡ true → p t ≡ true =
    λ t b. elim b as (λ b. eq_by_cmp triple_cmp t x ≡ b → p x ≡ true → ((u : Triple) → set.contains (set.from_list {R = triple_cmp} xs) u ≡ true → p u ≡ true) → (b || set.contains (set.from_list {R = triple_cmp} xs) t) ≡ true → p t ≡ true) [
      | true ↦ λ tied one rest is. ap p (triple_cmp-exact t x ((Equal-is (triple_cmp t x)).0 tied)) ∙ one
      | false ↦ λ tied one rest is. rest t is
    ] in (
      λ all t is. let both = and_parts (p x) (list_all p xs) all in
          from t (eq_by_cmp triple_cmp t x) refl both.0 ((all_members xs p).0 both.1) (sym (insert t) ∙ is),
      λ each. and_from _ _
          (each x (insert x ∙ ap (λ b. b || set.contains (set.from_list {R = triple_cmp} xs) x) (ap is_eq (tied_itself o x))))
          ((all_members xs p).1 (λ t is. each t (insert t ∙ ap (λ b. eq_by_cmp triple_cmp t x || b) is ∙ or-true (eq_by_cmp triple_cmp t x)))),
    )
  where
    or-true : (b : Bool) → (b || true) ≡ true
    or-true true = refl
    or-true false = refl
