-- Where a signature's parts stand.
use Rattle.std.proofs.Common.{◌≡◌, ℕ, ◌+◌, ◌<◌, ◌≤◌, List, [], ◌∷◌, ◌++◌, length, take, drop, get_or, refl, sym, ap, ◌∙◌, arith, length-append, add-zero}
use Rattle.std.proofs.lemmas.List.{append_assoc, take-append-drop, drop-drop, drop_more, drop_all, get_or-drop, take_at, drop_at, length-take-le, length-drop}
use Rattle.signatures.specs.Shape.{integer, signature, IsSignature}

length-signature : (r s : List ℕ) (kind : ℕ) → length (signature r s kind) ≡ length r + length s + 7
length-signature r s kind = omega (arith, length-append (r ++ integer s) (kind ∷ []), length-append r (integer s))

-- what follows r
rest : (r s : List ℕ) (kind : ℕ) → drop 4 (signature r s kind) ≡ r ++ (2 ∷ length s ∷ s ++ kind ∷ [])
rest r s kind = append_assoc r (integer s) (kind ∷ [])

drop_past : (r s : List ℕ) (kind : ℕ) → drop (4 + length r) (signature r s kind) ≡ 2 ∷ length s ∷ s ++ kind ∷ []
drop_past r s kind = sym (drop-drop (length r) 4 (signature r s kind)) ∙ ap (drop (length r)) (rest r s kind) ∙ drop_at r (2 ∷ length s ∷ s ++ kind ∷ []) (length r) refl

past : (xs : List ℕ) (a i d : ℕ) → get_or xs (a + i) d ≡ get_or (drop a xs) i d
past xs a i d = sym (get_or-drop a xs i d)

tag_at : (r s : List ℕ) (kind : ℕ) → get_or (signature r s kind) (4 + length r) 0 ≡ 2
tag_at r s kind = ap (λ i. get_or (signature r s kind) i 0) (sym (add-zero (4 + length r))) ∙ past (signature r s kind) (4 + length r) 0 0 ∙ ap (λ xs. get_or xs 0 0) (drop_past r s kind)

length_at : (r s : List ℕ) (kind : ℕ) → get_or (signature r s kind) (5 + length r) 0 ≡ length s
length_at r s kind =
    let e : 5 + length r ≡ 4 + length r + 1 = omega arith in
    ap (λ i. get_or (signature r s kind) i 0) e ∙ past (signature r s kind) (4 + length r) 1 0 ∙ ap (λ xs. get_or xs 1 0) (drop_past r s kind)

s_at : (r s : List ℕ) (kind : ℕ) → take (length s) (drop (6 + length r) (signature r s kind)) ≡ s
s_at r s kind =
    let e : 6 + length r ≡ 4 + length r + 2 = omega arith in
    ap (λ i. take (length s) (drop i (signature r s kind))) e
    ∙ ap (take (length s)) (sym (drop-drop 2 (4 + length r) (signature r s kind)) ∙ ap (drop 2) (drop_past r s kind))
    ∙ take_at s (kind ∷ []) (length s) refl

-- the bytes from a place on, one by one
from_place : (xs : List ℕ) (i j : ℕ) → i < length xs → i + 1 ≡ j → drop i xs ≡ get_or xs i 0 ∷ drop j xs
from_place xs i j h e = drop_more xs i 0 h ∙ ap (λ k. get_or xs i 0 ∷ drop k xs) e

-- the same, a number of bytes at a time
from_part : (xs : List ℕ) (i n j : ℕ) → i + n ≡ j → drop i xs ≡ take n (drop i xs) ++ drop j xs
from_part xs i n j e = sym (take-append-drop n (drop i xs)) ∙ ap (λ ys. take n (drop i xs) ++ ys) (drop-drop n i xs ∙ ap (λ k. drop k xs) e)

length-part : (xs : List ℕ) (i n : ℕ) → i + n ≤ length xs → length (take n (drop i xs)) ≡ n
length-part xs i n h = let fits : n ≤ length (drop i xs) = omega (arith, length-drop i xs) in length-take-le n (drop i xs) fits

-- bytes that have their parts in place are a signature
pub whole : (xs : List ℕ) (a b : ℕ) → length xs ≡ a + b + 7 → get_or xs 0 0 ≡ 0x30 → get_or xs 1 0 ≡ a + b + 4 → get_or xs 2 0 ≡ 2 → get_or xs 3 0 ≡ a → get_or xs (4 + a) 0 ≡ 2 → get_or xs (5 + a) 0 ≡ b
    → xs ≡ signature (take a (drop 4 xs)) (take b (drop (6 + a) xs)) (get_or xs (6 + a + b) 0)
whole xs a b len h0 h1 h2 h3 h4 h5 =
    let r : List ℕ = take a (drop 4 xs) in
    let s : List ℕ = take b (drop (6 + a) xs) in
    let r_len : length r ≡ a = length-part xs 4 a (omega arith) in
    let s_len : length s ≡ b = length-part xs (6 + a) b (omega arith) in
    let e0 = from_place xs 0 1 (omega arith) refl in
    let e1 = from_place xs 1 2 (omega arith) refl in
    let e2 = from_place xs 2 3 (omega arith) refl in
    let e3 = from_place xs 3 4 (omega arith) refl in
    let e4 = from_part xs 4 a (4 + a) refl in
    let e5 = from_place xs (4 + a) (5 + a) (omega arith) (omega arith) in
    let e6 = from_place xs (5 + a) (6 + a) (omega arith) (omega arith) in
    let e7 = from_part xs (6 + a) b (6 + a + b) refl in
    let e8 = from_place xs (6 + a + b) (7 + a + b) (omega arith) (omega arith) in
    let e9 : drop (7 + a + b) xs ≡ [] = drop_all (7 + a + b) xs (omega arith) in
    let total : length (integer r ++ integer s) ≡ a + b + 4 = omega (arith, length-append r (integer s)) in
    let joined = append_assoc r (integer s) (get_or xs (6 + a + b) 0 ∷ []) in
    cc

module _ {xs : List ℕ} (g : IsSignature xs) where
  pub length_of : length xs ≡ length g.r + length g.s + 7
  length_of = ap length g.spelled ∙ length-signature g.r g.s g.kind

  pub r_len_of : get_or xs 3 0 ≡ length g.r
  r_len_of = ap (λ ys. get_or ys 3 0) g.spelled

  pub tag_of : get_or xs (4 + length g.r) 0 ≡ 2
  tag_of = ap (λ ys. get_or ys (4 + length g.r) 0) g.spelled ∙ tag_at g.r g.s g.kind

  pub s_len_of : get_or xs (5 + length g.r) 0 ≡ length g.s
  s_len_of = ap (λ ys. get_or ys (5 + length g.r) 0) g.spelled ∙ length_at g.r g.s g.kind

  pub s_of : take (length g.s) (drop (6 + length g.r) xs) ≡ g.s
  s_of = ap (λ ys. take (length g.s) (drop (6 + length g.r) ys)) g.spelled ∙ s_at g.r g.s g.kind
