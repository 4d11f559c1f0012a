-- In a list in order the member at half the length is in the middle.
use Rattle.std.proofs.Common.{◌≡◌, ℕ, zero, suc, ◌<◌, ◌≤◌, ◌/◌, Bool, true, false, cond, ltb, leb, List, [], ◌∷◌, length, get_or, refl, ap, arith}
use Rattle.std.specs.List.{count_by}
use Rattle.std.specs.List.Sorted.{IsPermutation, IsNonDecreasing}
use Rattle.std.proofs.lemmas.List.Sorted.{sum_by-IsPermutation, IsPermutation-sym, Contains-permutation, length_permutation}
use Rattle.std.proofs.lemmas.Bool.{le-leb, le-ltb, and_from, lt-ltb}
use Rattle.locks.specs.MedianTime.{below, at_most, is_middle, IsMedian}
use Rattle.locks.specs.laws.MedianTime.{count_by-cons}

abbrev counted : Bool → ℕ
counted b = cond b 1 0

one_at_most : (b : Bool) → counted b ≤ 1
one_at_most true = omega arith
one_at_most false = omega arith

same_default : (xs : List ℕ) (k : ℕ) → k < length xs → get_or xs k (get_or xs k 0) ≡ get_or xs k 0
same_default [] k lt = absurd (omega arith)
same_default (x ∷ xs) zero lt = refl
same_default (x ∷ xs) (suc k) lt = same_default xs k (omega arith)

few_below : (m : ℕ) (xs : List ℕ) (k : ℕ) → ((j : ℕ) → k ≤ j → j < length xs → m ≤ get_or xs j 0) → count_by (λ x. ltb x m) xs ≤ k
few_below m [] k h = omega arith
few_below m (x ∷ xs) zero h =
    let no : counted (ltb x m) ≡ 0 = ap counted (le-ltb x m (h 0 (omega arith) (omega arith))) in
    omega (arith, no, count_by-cons (λ y. ltb y m) x xs, few_below m xs 0 (λ j le lt. h (suc j) (omega arith) (omega arith)))
few_below m (x ∷ xs) (suc k) h =
    let one : counted (ltb x m) ≤ 1 = one_at_most (ltb x m) in
    omega (arith, one, count_by-cons (λ y. ltb y m) x xs, few_below m xs k (λ j le lt. h (suc j) (omega arith) (omega arith)))

many_at_most : (m : ℕ) (xs : List ℕ) (k : ℕ) → k < length xs → ((j : ℕ) → j ≤ k → get_or xs j 0 ≤ m) → k < count_by (λ x. leb x m) xs
many_at_most m [] k lt h = absurd (omega arith)
many_at_most m (x ∷ xs) zero lt h =
    let yes : counted (leb x m) ≡ 1 = ap counted (le-leb x m (h 0 (omega arith))) in
    omega (arith, yes, count_by-cons (λ y. leb y m) x xs)
many_at_most m (x ∷ xs) (suc k) lt h =
    let yes : counted (leb x m) ≡ 1 = ap counted (le-leb x m (h 0 (omega arith))) in
    omega (arith, yes, count_by-cons (λ y. leb y m) x xs, many_at_most m xs k (omega arith) (λ j le. h (suc j) (omega arith)))

-- of times, and the same times in order
pub middle : (times sorted : List ℕ) (k : ℕ) → IsPermutation times sorted → IsNonDecreasing sorted → k ≡ length times / 2 → k < length times → IsMedian times (get_or sorted k 0)
unfolding is_middle
middle times sorted k moved up half lt =
    let m = get_or sorted k 0 in
    let long = length_permutation times sorted moved in
    let low : below m sorted ≡ below m times = sum_by-IsPermutation (λ x. cond (ltb x m) 1 0) times sorted moved in
    let high : at_most m sorted ≡ at_most m times = sum_by-IsPermutation (λ x. cond (leb x m) 1 0) times sorted moved in
    let few : below m sorted ≤ k = few_below m sorted k (λ j le short. up k j 0 le short) in
    let many : k < at_most m sorted = many_at_most m sorted k (omega arith) (λ j le. up j k 0 le (omega arith)) in
    let is = Contains-permutation sorted times m (IsPermutation-sym times sorted moved) (k, omega arith, same_default sorted k (omega arith)) in
    (is, and_from (leb (below m times) (length times / 2)) (ltb (length times / 2) (at_most m times)) (le-leb (below m times) (length times / 2) (omega arith)) (lt-ltb (length times / 2) (at_most m times) (omega arith)))
