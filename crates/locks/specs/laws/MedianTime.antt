-- What is proved of the definitions: a list has one median at most.
use Rattle.std.proofs.Common.{◌≡◌, ℕ, zero, suc, ◌+◌, ◌<◌, ◌≤◌, ◌/◌, Bool, true, false, cond, ltb, leb, List, [], ◌∷◌, Option, Some, length, get_or, refl, sym, ap, ◌∙◌, ⊎_elim, arith}
use Rattle.std.specs.List.{count_by, find}
use Rattle.std.specs.Option.{unwrap_or}
use Rattle.std.proofs.lemmas.List.Sums.{sum_by-cons}
use Rattle.std.proofs.lemmas.Bool.{cases_order, cases_Bool, both_ways, and_parts, leb-true, ltb-true, lt-ltb}
use Rattle.locks.specs.MedianTime.{below, at_most, is_middle, IsMedian, median_of}

pub count_by-cons : (p : ℕ → Bool) (x : ℕ) (xs : List ℕ) → count_by p (x ∷ xs) ≡ cond (p x) 1 0 + count_by p xs
count_by-cons p x xs = sum_by-cons (λ y. cond (p y) 1 0) x xs

one_each : (b c : Bool) → (b ≡ true → c ≡ true) → cond b 1 0 ≤ cond c 1 0
one_each false c h = omega arith
one_each true true h = omega arith
one_each true false h = absurd (both_ways false refl (h refl))

-- a test that passes wherever another does counts no fewer
count_by-weaker : (p q : ℕ → Bool) → ((x : ℕ) → p x ≡ true → q x ≡ true) → (xs : List ℕ) → count_by p xs ≤ count_by q xs
count_by-weaker p q h [] = omega arith
count_by-weaker p q h (x ∷ xs) = omega (arith, count_by-cons p x xs, count_by-cons q x xs, one_each (p x) (q x) (h x), count_by-weaker p q h xs)

-- the two counts of a middle
pub middle_parts : (times : List ℕ) (m : ℕ) → is_middle times m ≡ true → (below m times ≤ length times / 2) × (length times / 2 < at_most m times)
unfolding is_middle
middle_parts times m mid =
    let h = and_parts (leb (below m times) (length times / 2)) (ltb (length times / 2) (at_most m times)) mid in
    (leb-true (below m times) (length times / 2) h.0, ltb-true (length times / 2) (at_most m times) h.1)

-- more than half are at most m, so no n above m has at most half below it
not_above : (times : List ℕ) (m n : ℕ) → is_middle times m ≡ true → is_middle times n ≡ true → m < n → ⊥
not_above times m n mid other lt =
    let weaker : (x : ℕ) → leb x m ≡ true → ltb x n ≡ true = λ x e. (let le = leb-true x m e in lt-ltb x n (omega arith)) in
    let h : at_most m times ≤ below n times = count_by-weaker (λ time. leb time m) (λ time. ltb time n) weaker times in
    let p = middle_parts times m mid in
    let q = middle_parts times n other in
    omega arith

one_middle : (times : List ℕ) (m n : ℕ) → is_middle times m ≡ true → is_middle times n ≡ true → m ≡ n
one_middle times m n mid other =
    ⊎_elim (λ e. e) (λ h. ⊎_elim (λ lt. absurd (not_above times m n mid other lt)) (λ lt. absurd (not_above times n m other mid lt)) h) (cases_order m n)

found : (p : ℕ → Bool) (xs : List ℕ) (k d : ℕ) → k < length xs → p (get_or xs k d) ≡ true → (x : ℕ) × (find p xs ≡ Some x) × (p x ≡ true)
found p [] k d lt e = absurd (omega arith)
found p (y ∷ ys) zero d lt e = (y, ap (λ b. cond b (Some y) (find p ys)) e, e)
found p (y ∷ ys) (suc k) d lt e =
    ⊎_elim (λ yes. (y, ap (λ b. cond b (Some y) (find p ys)) yes, yes))
    (λ no. let r = found p ys k d (omega arith) e in (r.0, ap (λ b. cond b (Some y) (find p ys)) no ∙ r.1, r.2)) (cases_Bool (p y))

pub one_median : (times : List ℕ) (m : ℕ) → IsMedian times m → m ≡ median_of times
unfolding median_of
one_median times m h =
    let f = found (is_middle times) times h.0.0 m h.0.1 (ap (is_middle times) h.0.2 ∙ h.1) in
    one_middle times m f.0 h.1 f.2 ∙ sym (ap (λ (o : Option ℕ). unwrap_or o 0) f.1)
