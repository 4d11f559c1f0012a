-- Rows on stacks.
use Rattle.std.proofs.Common.{◌≡◌, ℕ, zero, suc, ◌+◌, ◌-◌, ◌≤◌, List, [], ◌∷◌, ◌++◌, length, reverse, take, drop, remove, set, get_or, slice_get, Some, sym, ap, ◌∙◌, append_assoc, drop-cons, length-drop, zero-add, arith}
use Rattle.std.proofs.lemmas.List.{take-append-drop, drop_at, reverse-append, length-reverse, length-take-le, map-append, get_or-reverse, length-set, set-append_right}
use Rattle.std.proofs.lemmas.List.Edits.{swap_is}
use Rattle.std.specs.List.{swap}
use Rattle.std.specs.Borrow.{Bor}
use Rattle.script.specs.Removal.{bytes_of}
use Rattle.std.proofs.lemmas.List.Edits.{remove-append_right}
use Rattle.interp.specs.Stack.{Bytes, Stack}

-- ---- piles, whose items stand the lowest first
reversed-parts : {A : Type 0} (k : ℕ) (xs : List A) → reverse xs ≡ reverse (drop k xs) ++ reverse (take k xs)
reversed-parts k xs = ap reverse (sym (take-append-drop k xs)) ∙ reverse-append (take k xs) (drop k xs)

pub drop-reversed : {A : Type 0} (n k : ℕ) (xs : List A) → n + k ≡ length xs → reverse (take k xs) ≡ drop n (reverse xs)
drop-reversed n k xs h =
    let many : length (reverse (drop k xs)) ≡ n = omega (arith, length-reverse (drop k xs), length-drop k xs) in
    sym (ap (drop n) (reversed-parts k xs) ∙ drop_at (reverse (drop k xs)) (reverse (take k xs)) n many)

removed-seam : {A : Type 0} (front back : List A) (x : A) (n : ℕ) → length front ≡ n → remove (front ++ x ∷ back) n ≡ front ++ back
removed-seam front back x n h =
    let none : n - n ≡ 0 = omega arith in
    remove-append_right front (x ∷ back) n n h (omega arith) ∙ ap (λ i. front ++ remove (x ∷ back) i) none

pub remove-reversed : {A : Type 0} (n k : ℕ) (x : A) (xs : List A) → n + k + 1 ≡ length xs → reverse (remove xs k) ≡ remove (reverse xs) n
remove-reversed n k x xs h =
    let front = take k xs in
    let back = drop (suc k) xs in
    let y = get_or xs k x in
    let split : xs ≡ front ++ y ∷ back = sym (take-append-drop k xs) ∙ ap (λ ys. front ++ ys) (drop-cons xs k x (omega arith)) in
    let first : length front ≡ k = length-take-le k xs (omega arith) in
    let many : length (reverse back) ≡ n = omega (arith, length-reverse back, length-drop (suc k) xs) in
    let turned : reverse xs ≡ reverse back ++ y ∷ reverse front =
    ap reverse split ∙ reverse-append front (y ∷ back) ∙ ap (λ ys. ys ++ reverse front) (reverse-append (y ∷ []) back) ∙ append_assoc (reverse back) (y ∷ []) (reverse front) in
    ap (λ ys. reverse (remove ys k)) split ∙ ap reverse (removed-seam front back y k first) ∙ reverse-append front back
    ∙ sym (ap (λ ys. remove ys n) turned ∙ removed-seam (reverse back) (reverse front) y n many)

pub set-reversed : {A : Type 0} (n k : ℕ) (y : A) (xs : List A) → n + k + 1 ≡ length xs → reverse (set xs k y) ≡ set (reverse xs) n y
set-reversed n k y xs h =
    let front = take k xs in
    let back = drop (suc k) xs in
    let x = get_or xs k y in
    let split : xs ≡ front ++ x ∷ back = sym (take-append-drop k xs) ∙ ap (λ ys. front ++ ys) (drop-cons xs k y (omega arith)) in
    let first : length front ≡ k = length-take-le k xs (omega arith) in
    let many : length (reverse back) ≡ n = omega (arith, length-reverse back, length-drop (suc k) xs) in
    let none : k - k ≡ 0 = omega arith in
    let none_reversed : n - n ≡ 0 = omega arith in
    let turned : reverse xs ≡ reverse back ++ x ∷ reverse front =
    ap reverse split ∙ reverse-append front (x ∷ back) ∙ ap (λ ys. ys ++ reverse front) (reverse-append (x ∷ []) back) ∙ append_assoc (reverse back) (x ∷ []) (reverse front) in
    let there : set xs k y ≡ front ++ y ∷ back =
    ap (λ ys. set ys k y) split ∙ set-append_right front (x ∷ back) k k y first (omega arith) ∙ ap (λ i. front ++ set (x ∷ back) i y) none in
    let turned_there : set (reverse xs) n y ≡ reverse back ++ y ∷ reverse front =
    ap (λ ys. set ys n y) turned ∙ set-append_right (reverse back) (x ∷ reverse front) n n y many (omega arith) ∙ ap (λ i. reverse back ++ set (x ∷ reverse front) i y) none_reversed in
    ap reverse there ∙ reverse-append front (y ∷ back) ∙ ap (λ ys. ys ++ reverse front) (reverse-append (y ∷ []) back) ∙ append_assoc (reverse back) (y ∷ []) (reverse front)
    ∙ sym turned_there

get_or-reversed : {A : Type 0} (n k : ℕ) (d : A) (xs : List A) → n + k + 1 ≡ length xs → get_or xs k d ≡ get_or (reverse xs) n d
get_or-reversed n k d xs h =
    let place : length xs - 1 - n ≡ k = omega arith in
    sym (get_or-reverse xs n d (omega arith) ∙ ap (λ i. get_or xs i d) place)

pub swap-reversed : {A : Type 0} (m n i j : ℕ) (xs : List A) → m + i + 1 ≡ length xs → n + j + 1 ≡ length xs → reverse (swap xs i j) ≡ swap (reverse xs) m n
swap-reversed m n i j [] h l = absurd (omega arith)
swap-reversed m n i j (d ∷ ys) h l =
    let xs = d ∷ ys in
    let one = get_or xs j d in
    let other = get_or xs i d in
    let turned_one : one ≡ get_or (reverse xs) n d = get_or-reversed n j d xs l in
    let turned_other : other ≡ get_or (reverse xs) m d = get_or-reversed m i d xs h in
    ap reverse (sym (swap_is xs i j d (omega arith) (omega arith)))
    ∙ set-reversed n j other (set xs i one) (l ∙ sym (length-set xs i one))
    ∙ ap (λ zs. set zs n other) (set-reversed m i one xs h)
    ∙ ap (λ z. set (set (reverse xs) m z) n other) turned_one
    ∙ ap (λ z. set (set (reverse xs) m (get_or (reverse xs) n d)) n z) turned_other
    ∙ swap_is (reverse xs) m n d (omega (arith, length-reverse xs)) (omega (arith, length-reverse xs))

-- one more item of those from a place on
pub taken-more : {A : Type 0} (at i : ℕ) (xs : List A) (x : A) → slice_get xs (at + i) ≡ Some x → take (i + 1) (drop at xs) ≡ take i (drop at xs) ++ x ∷ []
taken-more at i [] x e = cc
taken-more zero zero (y ∷ xs) x e = let same : y ≡ x = cc in ap (λ z. z ∷ []) same
taken-more zero (suc i) (y ∷ xs) x e = let f : slice_get xs (0 + i) ≡ Some x = rw zero-add (rw zero-add at e) in let one : suc i + 1 ≡ suc (i + 1) = omega arith in rw one (ap (λ zs. y ∷ zs) (taken-more 0 i xs x f))
taken-more (suc at) i (y ∷ xs) x e = let more : suc at + i ≡ suc (at + i) = omega arith in taken-more at i xs x (rw more at e)

-- one more slice of the elements from a place on
pub slices-more : (slices : List (Bor (List ℕ))) (x : Bor (List ℕ)) (y : Bytes) (from i : ℕ) (s : Stack) → bytes_of slices ≡ take (i - from) (drop from s) → from ≤ i
    → slice_get s i ≡ Some y → x.now ≡ y → bytes_of (slices ++ x ∷ []) ≡ take (i + 1 - from) (drop from s)
slices-more slices x y from i s so_far past got is =
    let place : i ≡ from + (i - from) = omega arith in
    let more : i + 1 - from ≡ (i - from) + 1 = omega arith in
    map-append (λ slice. slice.now) slices (x ∷ []) ∙ ap (λ front. front ++ x.now ∷ []) so_far ∙ ap (λ z. take (i - from) (drop from s) ++ z ∷ []) is
    ∙ sym (ap (λ n. take n (drop from s)) more ∙ taken-more from (i - from) s y (rw place at got))
