-- Lists in order that hold each element once.
use Rattle.std.proofs.Common.{◌≡◌, ℕ, zero, suc, ◌+◌, ◌<◌, ◌≤◌, Bool, true, false, cond, ◌||◌, List, [], ◌∷◌, length, get_or, refl, sym, ap, ◌∙◌, arith}
use Rattle.std.specs.declared.cmp.Ordering.{Ordering}
use Rattle.std.specs.declared.cmp.Ordering.TheVariants.{Less, Greater}
use Rattle.std.specs.Ordering.{is_lt, eq_by_cmp, ordering_reverse}
use Rattle.std.specs.Cmp.{IsTotalOrder, Equal-is}
use Rattle.std.specs.List.{AllByRecursion, list_any, insert, dedup, dedup_from}
use Rattle.std.specs.List.Sorted.{IsSorted, IsStrictlySortedBy}
use Rattle.std.specs.FinSet as set
use Rattle.std.specs.FinSet.{IsAntisymmetric}

module _ {X : Type 0} (P : X → Type 0) where
  all_from_each : (xs : List X) → ((i : ℕ) (d : X) → i < length xs → P (get_or xs i d)) → AllByRecursion P xs
  all_from_each [] each = tt
  all_from_each (x ∷ xs) each = (each 0 x (omega arith), all_from_each xs (λ i d h. each (suc i) d (omega arith)))

  all_inserted : (i : ℕ) (xs : List X) (y : X) → AllByRecursion P xs → P y → AllByRecursion P (insert xs i y)
  all_inserted zero xs y all here = (here, all)
  all_inserted (suc i) [] y all here = (here, tt)
  all_inserted (suc i) (x ∷ xs) y all here = (all.0, all_inserted i xs y all.1 here)

module _ {K : Type 0} {R : K → K → Ordering} (o : IsTotalOrder R) where
  turned : (x y : K) → R x y ≡ Less → R y x ≡ Greater
  turned x y h = o.antisymm y x ∙ ap ordering_reverse h

  pub sorted_from_strict : (xs : List K) → IsStrictlySortedBy R xs → IsSorted R xs
  unfolding IsStrictlySortedBy
  sorted_from_strict [] s k d low lt = absurd (omega arith)
  sorted_from_strict (x ∷ []) s k d low lt = absurd (omega arith)
  sorted_from_strict (x ∷ y ∷ xs) s zero d low lt = ap is_lt (turned x y s.0.0)
  sorted_from_strict (x ∷ y ∷ xs) s (suc k) d low lt =
      let e : suc k + 1 ≡ suc (k + 1) = omega arith in
      rw e (sorted_from_strict (y ∷ xs) s.1 k d (omega arith) (omega arith))

  -- an element at the place where a search missed it
  pub strict_insert : (at : ℕ) (xs : List K) (k : K) → IsStrictlySortedBy R xs → at ≤ length xs → ((i : ℕ) (d : K) → i < at → R (get_or xs i d) k ≡ Less)
      → ((i : ℕ) (d : K) → at ≤ i → i < length xs → R (get_or xs i d) k ≡ Greater) → IsStrictlySortedBy R (insert xs at k)
  unfolding IsStrictlySortedBy
  strict_insert zero xs k s in_range before after =
      (all_from_each (λ y. R k y ≡ Less) xs (λ i d h. o.antisymm k (get_or xs i d) ∙ ap ordering_reverse (after i d (omega arith) h)), s)
  strict_insert (suc at) [] k s in_range before after = absurd (omega arith)
  strict_insert (suc at) (x ∷ xs) k s in_range before after = (
    all_inserted (λ y. R x y ≡ Less) at xs k s.0 (before 0 x (omega arith)),
    strict_insert at xs k s.1 (omega arith) (λ i d h. before (suc i) d (omega arith)) (λ i d low h. after (suc i) d (omega arith) (omega arith)),
  )

-- ---- elements that stand more than once
or_twice : (a b : Bool) → (a || b) ≡ (a || (a || b))
or_twice true b = refl
or_twice false b = refl

module _ {K : Type 0} (same : K → K → Bool) (exact : (x y : K) → same x y ≡ true → x ≡ y) (p : K → Bool) where
  any_from : (x : K) (xs : List K) → list_any p (dedup_from same x xs) ≡ (p x || list_any p xs)
  any_from x [] = refl
  any_from x (y ∷ ys) = by (same y x) refl (any_from x ys) (any_from y ys)
    where
      by : (b : Bool) → same y x ≡ b → list_any p (dedup_from same x ys) ≡ (p x || list_any p ys) → list_any p (dedup_from same y ys) ≡ (p y || list_any p ys)
          → list_any p (cond b (dedup_from same x ys) (x ∷ dedup_from same y ys)) ≡ (p x || (p y || list_any p ys))
      by true e at_x at_y = at_x ∙ or_twice (p x) (list_any p ys) ∙ ap (λ z. p x || (p z || list_any p ys)) (sym (exact y x e))
      by false e at_x at_y = ap (λ b. p x || b) at_y

  pub any_once : (xs : List K) → list_any p (dedup same xs) ≡ list_any p xs
  any_once [] = refl
  any_once (x ∷ xs) = any_from x xs

module _ {K : Type 0} {R : K → K → Ordering} (o : IsTotalOrder R) (exact : IsAntisymmetric R) where
  -- the set of a list is that of each of its elements once
  pub from_list_once : (xs : List K) → set.from_list {R = R} (dedup (eq_by_cmp R) xs) ≡ set.from_list xs
  from_list_once xs = set.same_set o exact _ _ (λ q.
      set.contains-from_list o (dedup (eq_by_cmp R) xs) q
      ∙ any_once (eq_by_cmp R) (λ x y e. exact x y ((Equal-is (R x y)).0 e)) (eq_by_cmp R q) xs
      ∙ sym (set.contains-from_list o xs q))
