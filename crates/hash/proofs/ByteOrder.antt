-- Bytes compared as numbers.
use Rattle.std.proofs.Common.{◌≡◌, ℕ, zero, suc, ◌+◌, ◌*◌, ◌<◌, ◌≤◌, length, get_or, arith, List, [], ◌∷◌, refl, sym, ap, subst, ◌∙◌}
use Rattle.std.specs.Prelude.{take, drop}
use Rattle.std.proofs.Math.Seq.{drop-nil}
use Rattle.std.proofs.lemmas.Cmp.{ranked}
use Rattle.std.proofs.lemmas.List.{length-drop, get_or-drop, drop_all}
use Rattle.std.specs.Cmp.{nat_cmp_is}
use Rattle.std.specs.Cmp.Lexicographic.{slice_cmp}
use Rattle.std.specs.Ordering.{nat_cmp, ordering_then, MatchOrdering}
use Rattle.std.specs.declared.cmp.Ordering.{Ordering}
use Rattle.std.specs.declared.cmp.Ordering.TheVariants.{Less, Equal, Greater}
use Rattle.hash.specs.inside.Order.{number_after, word_at}

abbrev pub Bytes : List ℕ → Type 0
Bytes xs = (k : ℕ) → get_or xs k 0 < 256

-- numbers are in the order of what stands before their last digits, and then of these
digit : (n m b c : ℕ) → b < 256 → c < 256 → ordering_then (nat_cmp n m) (nat_cmp b c) ≡ nat_cmp (n * 256 + b) (m * 256 + c)
digit n m b c lb lc = by (nat_cmp n m) (ranked n m _ refl) (nat_cmp b c) (ranked b c _ refl)
  where
    by : (o : Ordering) → MatchOrdering o (n < m) (n ≡ m) (m < n) → (p : Ordering) → MatchOrdering p (b < c) (b ≡ c) (c < b) → ordering_then o p ≡ nat_cmp (n * 256 + b) (m * 256 + c)
    by Less h p k = let l : n < m = h in nat_cmp_is (n * 256 + b) (m * 256 + c) Less (omega arith)
    by Greater h p k = let l : m < n = h in nat_cmp_is (n * 256 + b) (m * 256 + c) Greater (omega arith)
    by Equal h Less k = let e : n ≡ m = h in let l : b < c = k in nat_cmp_is (n * 256 + b) (m * 256 + c) Less (omega arith)
    by Equal h Greater k = let e : n ≡ m = h in let l : c < b = k in nat_cmp_is (n * 256 + b) (m * 256 + c) Greater (omega arith)
    by Equal h Equal k = let e : n ≡ m = h in let l : b ≡ c = k in nat_cmp_is (n * 256 + b) (m * 256 + c) Equal (omega arith)

then_then : (o p q : Ordering) → ordering_then o (ordering_then p q) ≡ ordering_then (ordering_then o p) q
then_then Less p q = refl
then_then Equal p q = refl
then_then Greater p q = refl

spelled : (n x y : ℕ) (us vs : List ℕ) → n ≤ length us → n ≤ length vs → Bytes us → Bytes vs
    → ordering_then (nat_cmp x y) (slice_cmp nat_cmp us vs) ≡ ordering_then (nat_cmp (number_after x (take n us)) (number_after y (take n vs))) (slice_cmp nat_cmp (drop n us) (drop n vs))
spelled zero x y us vs p q g h = refl
spelled (suc n) x y [] vs p q g h = absurd (omega arith)
spelled (suc n) x y (u ∷ us) [] p q g h = absurd (omega arith)
spelled (suc n) x y (u ∷ us) (v ∷ vs) p q g h =
    then_then (nat_cmp x y) (nat_cmp u v) (slice_cmp nat_cmp us vs)
    ∙ ap (λ o. ordering_then o (slice_cmp nat_cmp us vs)) (digit x y u v (g 0) (h 0))
    ∙ spelled n (x * 256 + u) (y * 256 + v) us vs (omega arith) (omega arith) (λ k. g (suc k)) (λ k. h (suc k))

drop_drop : (m n : ℕ) (xs : List ℕ) → drop n (drop m xs) ≡ drop (m + n) xs
drop_drop zero n xs = let e : n ≡ 0 + n = omega arith in ap (λ k. drop k xs) e
drop_drop (suc m) n [] = drop-nil n ∙ sym (drop-nil (suc m + n))
drop_drop (suc m) n (x ∷ xs) = let e : suc (m + n) ≡ suc m + n = omega arith in drop_drop m n xs ∙ ap (λ k. drop k (x ∷ xs)) e

module _ (xs ys : List ℕ) (long : length xs ≡ 32) (as_long : length ys ≡ 32) (bx : Bytes xs) (by : Bytes ys) where
  -- the words at a place decide, and else what stands after them
  pub from : (i : ℕ) → i + 8 ≤ 32 → slice_cmp nat_cmp (drop i xs) (drop i ys) ≡ ordering_then (nat_cmp (word_at i xs) (word_at i ys)) (slice_cmp nat_cmp (drop (i + 8) xs) (drop (i + 8) ys))
  from i le =
      spelled 8 0 0 (drop i xs) (drop i ys) (omega (arith, length-drop i xs)) (omega (arith, length-drop i ys))
      (λ k. subst (λ z. z < 256) (sym (get_or-drop i xs k 0)) (bx (i + k))) (λ k. subst (λ z. z < 256) (sym (get_or-drop i ys k 0)) (by (i + k)))
      ∙ ap (λ us. ordering_then (nat_cmp (word_at i xs) (word_at i ys)) (slice_cmp nat_cmp us (drop 8 (drop i ys)))) (drop_drop i 8 xs)
      ∙ ap (λ vs. ordering_then (nat_cmp (word_at i xs) (word_at i ys)) (slice_cmp nat_cmp (drop (i + 8) xs) vs)) (drop_drop i 8 ys)

  -- nothing stands after the last
  pub last : slice_cmp nat_cmp (drop 24 xs) (drop 24 ys) ≡ nat_cmp (word_at 24 xs) (word_at 24 ys)
  last =
      from 24 (omega arith)
      ∙ ap (λ us. ordering_then (nat_cmp (word_at 24 xs) (word_at 24 ys)) (slice_cmp nat_cmp us (drop 32 ys))) (drop_all 32 xs (omega arith))
      ∙ ap (λ vs. ordering_then (nat_cmp (word_at 24 xs) (word_at 24 ys)) (slice_cmp nat_cmp [] vs)) (drop_all 32 ys (omega arith))
      ∙ then_equal (nat_cmp (word_at 24 xs) (word_at 24 ys))
    where
      then_equal : (o : Ordering) → ordering_then o Equal ≡ o
      then_equal Less = refl
      then_equal Equal = refl
      then_equal Greater = refl

  -- where words differ, they decide
  pub decide : (i : ℕ) → i + 8 ≤ 32 → ¬ (word_at i xs ≡ word_at i ys) → nat_cmp (word_at i xs) (word_at i ys) ≡ slice_cmp nat_cmp (drop i xs) (drop i ys)
  decide i le apart = by_words (nat_cmp (word_at i xs) (word_at i ys)) (ranked (word_at i xs) (word_at i ys) _ refl) ∙ sym (from i le)
    where
      by_words : (o : Ordering) → MatchOrdering o (word_at i xs < word_at i ys) (word_at i xs ≡ word_at i ys) (word_at i ys < word_at i xs) → o ≡ ordering_then o (slice_cmp nat_cmp (drop (i + 8) xs) (drop (i + 8) ys))
      by_words Less h = refl
      by_words Equal h = absurd (apart h)
      by_words Greater h = refl

  -- where they don't, what stands after them does
  pub pass : (i : ℕ) → i + 8 ≤ 32 → word_at i xs ≡ word_at i ys → slice_cmp nat_cmp (drop (i + 8) xs) (drop (i + 8) ys) ≡ slice_cmp nat_cmp (drop i xs) (drop i ys)
  pass i le e = sym (from i le ∙ ap (λ o. ordering_then o (slice_cmp nat_cmp (drop (i + 8) xs) (drop (i + 8) ys))) (sym (nat_cmp_is _ _ Equal e)))
