-- Tips sorted as tops are the tips in their order.
use Rattle.std.proofs.Common.{◌≡◌, ℕ, suc, ◌+◌, ◌-◌, ◌<◌, ◌≤◌, Bool, true, false, cond, ◌&&◌, ◌||◌, eqb, ltb, List, [], ◌∷◌, length, get_or, map, sym, refl, ap, ◌∙◌, subst, inl, inr, arith}
use Rattle.std.specs.List.{All, filter}
use Rattle.std.specs.List.Sorted.{IsPermutation, IsSorted, IsSortedBy}
use Rattle.std.specs.Ordering.{nat_cmp, ordering_then, is_lt}
use Rattle.std.specs.Cmp.{IsTotalOrder, IsStrictWeakOrder}
use Rattle.std.specs.declared.cmp.Ordering.TheVariants.{Less, Equal, Greater}
use Rattle.std.proofs.lemmas.Bool.{cases_lt, cases_eq, eq-eqb, ne_eqb, eqb-true, lt-ltb, le-ltb, or_cases, true≢false}
use Rattle.std.proofs.lemmas.Cmp.{then_total, on_total, nat_cmp_total}
use Rattle.std.proofs.lemmas.List.{get_or-map, length-map}
use Rattle.std.proofs.lemmas.List.Elements.{All-map, All-head, All-tail}
use Rattle.std.proofs.lemmas.List.Sorted.{IsPermutation-map, All-permutation, sum_by-IsPermutation, sorted_far, ranks_by}
use Rattle.block.specs.declared.block.Block.{Block}
use Rattle.tree.specs.declared.tip_order.Top.{Top}
use Rattle.tree.specs.Branches.{Blocks, has, places, height}
use Rattle.tree.specs.Limits.{max_blocks}
use Rattle.tree.specs.inside.Tops.{top_at, top_cmp}
use Rattle.tree.specs.inside.Leaves.{AreLeaves}
use Rattle.tree.specs.Tips.{is_tip, goes_first, sort_places}
use Rattle.tree.specs.laws.Sets.{has_here, has_there}
use Rattle.tree.specs.laws.Parents.{height-place}
use Rattle.tree.specs.laws.Orders.{one, times, has-times, times_filter-above, times-ordered, IsOrdered}
use Rattle.tree.specs.laws.Walks.{has_at}
use Rattle.tree.specs.laws.Tips.{all_tips, once-tip, tips_in_order}

total_order : IsTotalOrder top_cmp
total_order = then_total (on_total (λ l. l.depth) nat_cmp_total) (on_total (λ l. l.place) nat_cmp_total)

abbrev below : Top → Top → Bool
below l m = is_lt (top_cmp l m)

weak_order : IsStrictWeakOrder below
weak_order = ranks_by total_order (λ (l : Top). l)

lt_nat : (p q : ℕ) → is_lt (nat_cmp p q) ≡ ltb p q
lt_nat p q =
    elim (ltb p q) as (λ v. is_lt (cond v Less (cond (eqb p q) Equal Greater)) ≡ v) [
      | true ↦ refl
      | false ↦ elim (eqb p q) as (λ v. is_lt (cond v Equal Greater) ≡ false) [ true ↦ refl | false ↦ refl ]
    ]

lt_then : (a b p q : ℕ) → is_lt (ordering_then (nat_cmp a b) (nat_cmp p q)) ≡ (ltb a b || (eqb a b && ltb p q))
lt_then a b p q =
    elim (ltb a b) as (λ v. is_lt (ordering_then (cond v Less (cond (eqb a b) Equal Greater)) (nat_cmp p q)) ≡ (v || (eqb a b && ltb p q))) [
      | true ↦ refl
      | false ↦ elim (eqb a b) as (λ v. is_lt (ordering_then (cond v Equal Greater) (nat_cmp p q)) ≡ (v && ltb p q)) [ true ↦ lt_nat p q | false ↦ refl ]
    ]

-- less is left below the greatest height where the height is greater
lt_left : (m x y : ℕ) → x ≤ m → y ≤ m → ltb (m - x) (m - y) ≡ ltb y x
lt_left m x y h g =
    elim (cases_lt y x) [
      | inl l ↦ lt-ltb (m - x) (m - y) (omega arith) ∙ sym (lt-ltb y x l)
      | inr l ↦ le-ltb (m - x) (m - y) (omega arith) ∙ sym (le-ltb y x l)
    ]

eq_left : (m x y : ℕ) → x ≤ m → y ≤ m → eqb (m - x) (m - y) ≡ eqb x y
eq_left m x y h g =
    elim (cases_eq x y) [
      | inl e ↦ eq-eqb (m - x) (m - y) (omega arith) ∙ sym (eq-eqb x y e)
      | inr e ↦ ne_eqb (m - x) (m - y) (λ q. e (omega arith)) ∙ sym (ne_eqb x y e)
    ]

index_of : (l : List ℕ) (q : ℕ) → has l q ≡ true → (i : ℕ) × (i < length l) × ((d : ℕ) → get_or l i d ≡ q)
index_of [] q h = absurd (true≢false (sym h))
index_of (y ∷ l) q h =
    elim (or_cases (eqb y q) (has l q) h) [
      | inl e ↦ (0, omega arith, λ d. eqb-true y q e)
      | inr e ↦ let r = index_of l q e in let b = r.1 in (suc r.0, omega arith, r.2)
    ]

abbrev place_in : Top → ℕ
place_in l = l.place

module _ (t : Blocks Block) (room : suc (length t) ≤ max_blocks) where
  top_order : (q p : ℕ) → q ≤ length t → p ≤ length t → below (top_at t q) (top_at t p) ≡ goes_first t q p
  unfolding goes_first
  top_order q p h g =
      let r = room in
      let a = height-place t q q (omega arith) h in
      let b = height-place t p p (omega arith) g in
      let x : height t q ≤ max_blocks = omega arith in
      let y : height t p ≤ max_blocks = omega arith in
      lt_then (max_blocks - height t q) (max_blocks - height t p) q p
      ∙ ap (λ v. v || (eqb (max_blocks - height t q) (max_blocks - height t p) && ltb q p)) (lt_left max_blocks (height t q) (height t p) x y)
      ∙ ap (λ v. ltb (height t p) (height t q) || (v && ltb q p)) (eq_left max_blocks (height t q) (height t p) x y)

  -- tops in order are places in order
  places_in_order : (l : List ℕ) → ((q : ℕ) → has l q ≡ true → q ≤ length t) → IsSortedBy below (map (top_at t) l) → IsOrdered (goes_first t) l
  places_in_order [] b up = tt
  places_in_order (p ∷ l) b up = (
    λ q h.
        let i = index_of l q h in
        let n : suc i.0 < length (map (top_at t) (p ∷ l)) = let k = i.1 in let m = length-map l (top_at t) in omega arith in
        sym (top_order q p (b q (has_there p q l h)) (b p (has_here p l)))
        ∙ ap (λ (x : Top). below x (top_at t p)) (ap (top_at t) (sym (i.2 0)) ∙ sym (get_or-map (top_at t) l i.0 0 (top_at t p) i.1))
        ∙ sorted_far below weak_order (map (top_at t) (p ∷ l)) up 0 (suc i.0) (top_at t p) (omega arith) n,
    places_in_order l (λ q h. b q (has_there p q l h)) (λ k d z h.
        let n : suc (k + 1) ≡ suc k + 1 = omega arith in
        ap (λ (i : ℕ). below (get_or (map (top_at t) (p ∷ l)) i d) (get_or (map (top_at t) l) k d)) n ∙ up (suc k) d (omega arith) (omega arith)),
  )

  as_tops : (l : List Top) → All (λ (x : Top). x ≡ top_at t x.place) l → l ≡ map (top_at t) (map place_in l)
  as_tops [] a = refl
  as_tops (x ∷ l) a =
      ap (λ (y : Top). y ∷ l) (All-head (λ (x : Top). x ≡ top_at t x.place) x l a)
      ∙ ap (λ (r : List Top). top_at t x.place ∷ r) (as_tops l (All-tail (λ (x : Top). x ≡ top_at t x.place) x l a))

  places_back : (l : List ℕ) → map place_in (map (top_at t) l) ≡ l
  places_back [] = refl
  places_back (p ∷ l) = ap (λ (r : List ℕ). p ∷ r) (places_back l)

  -- the tips, sorted as tops, are the tips in their order
  pub sorted_tips : (leaves : List ℕ) (a : ℕ) (l : List Top) → AreLeaves t leaves → a ≤ length t → IsPermutation (map (top_at t) (all_tips leaves t a)) l → IsSorted top_cmp l
      → l ≡ map (top_at t) (sort_places (goes_first t) (filter (is_tip t a) (places t)))
  sorted_tips leaves a l are k moved up = whole ∙ ap (map (top_at t)) (tips_in_order t leaves a (map place_in l) are k kept (places_in_order (map place_in l) kept (subst (IsSortedBy below) whole up)) same)
    where
      whole : l ≡ map (top_at t) (map place_in l)
      whole = as_tops l (All-permutation (λ (x : Top). x ≡ top_at t x.place) (map (top_at t) (all_tips leaves t a)) l moved (All-map (λ (x : Top). x ≡ top_at t x.place) (top_at t) (all_tips leaves t a) (λ i d h. refl)))

      same : (x : ℕ) → times x (map place_in l) ≡ times x (all_tips leaves t a)
      same x = sum_by-IsPermutation (one x) (map place_in (map (top_at t) (all_tips leaves t a))) (map place_in l) (IsPermutation-map place_in (map (top_at t) (all_tips leaves t a)) l moved) ∙ ap (times x) (places_back (all_tips leaves t a))

      kept : (q : ℕ) → has (map place_in l) q ≡ true → q ≤ length t
      kept q h =
          elim (cases_lt (length t) q) [
            | inl g ↦
                let s = same q in
                let w = once-tip t leaves a q are k in
                let z = times_filter-above (is_tip t a) (length t) q g in
                let n = has-times q (map place_in l) h in
                absurd (omega arith)
            | inr g ↦ g
          ]

-- each tip is kept
pub tip_kept : (t : Blocks Block) (a : ℕ) (l : List Top) (i : ℕ) (d : Top) → l ≡ map (top_at t) (sort_places (goes_first t) (filter (is_tip t a) (places t))) → i < length l → (get_or l i d).place ≤ length t
tip_kept t a l i d e h =
    let n : i < length (sort_places (goes_first t) (filter (is_tip t a) (places t))) =
    let v = ap (λ (x : List Top). length x) e in let m = length-map (sort_places (goes_first t) (filter (is_tip t a) (places t))) (top_at t) in omega arith
    in
    let at : (get_or l i d).place ≡ get_or (sort_places (goes_first t) (filter (is_tip t a) (places t))) i 0 =
    ap (λ (x : List Top). (get_or x i d).place) e ∙ ap place_in (get_or-map (top_at t) (sort_places (goes_first t) (filter (is_tip t a) (places t))) i 0 d n)
    in
    elim (cases_lt (length t) (get_or l i d).place) [
      | inl g ↦
          let has = has-times (get_or (sort_places (goes_first t) (filter (is_tip t a) (places t))) i 0) (sort_places (goes_first t) (filter (is_tip t a) (places t))) (has_at (sort_places (goes_first t) (filter (is_tip t a) (places t))) i 0 n) in
          let w = times-ordered (goes_first t) (get_or (sort_places (goes_first t) (filter (is_tip t a) (places t))) i 0) (filter (is_tip t a) (places t)) in
          let z = times_filter-above (is_tip t a) (length t) (get_or (sort_places (goes_first t) (filter (is_tip t a) (places t))) i 0) (omega arith) in
          absurd (omega arith)
      | inr g ↦ g
    ]
