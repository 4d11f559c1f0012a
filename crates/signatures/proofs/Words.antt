-- The first word of a line, and the rest.
use Rattle.std.proofs.Common.{◌≡◌, ◌==◌, not, ℕ, suc, ◌+◌, ◌<◌, ◌≤◌, Bool, true, false, cond, List, [], ◌∷◌, length, take, drop, get_or, nat_lt, Some, None, unwrap_or, refl, sym, ap, ◌∙◌, inl, inr, arith}
use Rattle.std.specs.List.{filter, slice_split, position, position_or_len}
use Rattle.std.proofs.lemmas.Bool.{cases_lt, cases_eq}
use Rattle.std.proofs.lemmas.Bool.Decides.{nat_tests}
use Rattle.std.proofs.lemmas.List.{drop_more, drop_all, take_all, length-take-le}
use Rattle.std.proofs.lemmas.List.Splits.{slice_split-cons_yes, slice_split_first, slice_split_none}
use Rattle.std.proofs.lemmas.List.Sums.{passes_at_first, fails_before_first}
use Rattle.signatures.specs.Lines.{words}

abbrev is_space : ℕ → Bool
is_space byte = byte == 32

-- how many spaces a line begins with, and how many other bytes
abbrev spaces : List ℕ → ℕ
spaces line = position_or_len (λ byte. not (byte == 32)) line

abbrev len : List ℕ → ℕ
len line = position_or_len is_space line

abbrev kept : List (List ℕ) → List (List ℕ)
kept parts = filter (λ word. nat_lt 0 (length word)) parts

place-Some : (n k : ℕ) → n < k → cond (nat_lt n k) (Some n) None ≡ Some n
place-Some n k h = grind (arith, nat_tests)

place-None : (n k : ℕ) → k ≤ n → cond (nat_lt n k) (Some n) None ≡ None
place-None n k h = grind (arith, nat_tests)

past_space : (x : ℕ) (xs : List ℕ) → is_space x ≡ true → words (x ∷ xs) ≡ words xs
past_space x xs e = ap kept (slice_split-cons_yes is_space x xs e)

past_spaces : (line : List ℕ) → words (drop (spaces line) line) ≡ words line
past_spaces [] = refl
past_spaces (x ∷ xs) = go (past_spaces xs) (is_space x) refl
  where
    go : words (drop (spaces xs) xs) ≡ words xs → (b : Bool) → is_space x ≡ b → words (drop (spaces (x ∷ xs)) (x ∷ xs)) ≡ words (x ∷ xs)
    go more true e =
        let one : 1 + spaces xs ≡ suc (spaces xs) = omega arith in
        ap (λ b. words (drop (cond (not (not b)) (1 + spaces xs) 0) (x ∷ xs))) e ∙ ap (λ k. words (drop k (x ∷ xs))) one ∙ more ∙ sym (past_space x xs e)
    go more false e = ap (λ b. words (drop (cond (not (not b)) (1 + spaces xs) 0) (x ∷ xs))) e

-- a line of spaces has no words
pub words_none : (line : List ℕ) → position (λ byte. not (byte == 32)) line ≡ None → words line ≡ []
words_none line none = elim (cases_lt (spaces line) (length line)) [
  | inl lt ↦ cc (sym none ∙ place-Some (spaces line) (length line) lt)
  | inr end ↦ sym (past_spaces line) ∙ ap words (drop_all (spaces line) line end)
]

no : (b : Bool) → not b ≡ true → b ≡ false
no true h = cc h
no false h = refl

-- the first word begins where the spaces end
pub words_from : (line : List ℕ) (i : ℕ) → position (λ byte. not (byte == 32)) line ≡ Some i → (i < length line) × (words line ≡ words (drop i line)) × (is_space (get_or (drop i line) 0 0) ≡ false)
words_from line i found = elim (cases_lt (spaces line) (length line)) [
  | inl lt ↦
      let e : spaces line ≡ i = cc (sym found ∙ place-Some (spaces line) (length line) lt) in
      let first = ap (λ ys. is_space (get_or ys 0 0)) (drop_more line (spaces line) 0 lt) in
      let here = first ∙ no (is_space (get_or line (spaces line) 0)) (passes_at_first (λ byte. not (byte == 32)) line 0 lt) in
      rw (← e) (lt, sym (past_spaces line), here)
  | inr end ↦ cc (sym found ∙ place-None (spaces line) (length line) end)
]

kept_one : (word : List ℕ) (parts : List (List ℕ)) → 0 < length word → kept (word ∷ parts) ≡ word ∷ kept parts
kept_one [] parts h = absurd (omega arith)
kept_one (x ∷ word) parts h = grind (arith, nat_tests)

-- and ends at the next space, or with the line
pub words_first : (xs : List ℕ) (n : ℕ) → 0 < length xs → is_space (get_or xs 0 0) ≡ false → n ≡ unwrap_or (position is_space xs) (length xs) → (0 < length (take n xs)) × (words xs ≡ take n xs ∷ words (drop n xs))
words_first xs n more first at = elim (cases_lt (len xs) (length xs)) [
  | inl lt ↦
      let e : n ≡ len xs = at ∙ ap (λ o. unwrap_or o (length xs)) (place-Some (len xs) (length xs) lt) in
      let long : length (take (len xs) xs) ≡ len xs = length-take-le (len xs) xs (omega arith) in
      let rest : words (drop (len xs) xs) ≡ words (drop (len xs + 1) xs) = ap words (drop_more xs (len xs) 0 lt) ∙ past_space (get_or xs (len xs) 0) (drop (len xs + 1) xs) (passes_at_first is_space xs 0 lt) in
      let pos : 0 < len xs = elim (cases_eq (len xs) 0) [
        | inl none ↦ cc (sym first ∙ ap (λ i. is_space (get_or xs i 0)) (sym none) ∙ passes_at_first is_space xs 0 lt)
        | inr some ↦ omega arith
      ] in
      let word : 0 < length (take (len xs) xs) = omega arith in
      rw e (word, ap kept (slice_split_first is_space xs 0 lt) ∙ kept_one (take (len xs) xs) (slice_split is_space (drop (len xs + 1) xs)) word ∙ ap (λ more. take (len xs) xs ∷ more) (sym rest))
  | inr end ↦
      let e : n ≡ length xs = at ∙ ap (λ o. unwrap_or o (length xs)) (place-None (len xs) (length xs) end) in
      let whole : take (length xs) xs ≡ xs = take_all (length xs) xs (omega arith) in
      let none : drop (length xs) xs ≡ [] = drop_all (length xs) xs (omega arith) in
      rw (e, whole, none) (more, ap kept (slice_split_none is_space xs (λ k d lt. fails_before_first is_space xs k d (omega arith))) ∙ kept_one xs [] more)
]
