-- The last of a list, and lists that are added to one by one.
use Rattle.std.proofs.Common.{◌≡◌, ℕ, zero, suc, ◌+◌, ◌-◌, ◌<◌, ◌≤◌, List, [], ◌∷◌, ◌++◌, length, map, reverse, drop, get_or, Bool, cond, inl, inr, sym, refl, ap, ◌∙◌, arith}
use Rattle.std.proofs.lemmas.List.{append_assoc, reverse-append, length-append, length-drop}
use Rattle.std.proofs.lemmas.Bool.Decides.{leb_tells}
use Rattle.activate.specs.CoreState.{lesser_of}
use Rattle.activate.specs.inside.ActiveBranch.{last_of}

module _ {A : Type 0} where
  drop-none : (i : ℕ) → ◌≡◌ {A = List A} (drop i []) []
  drop-none zero = refl
  drop-none (suc i) = refl

  drop_both : (i j : ℕ) (l : List A) → drop i (drop j l) ≡ drop (j + i) l
  drop_both i zero l = ap (λ n. drop n l) (omega arith)
  drop_both i (suc j) [] = drop-none i ∙ sym (drop-none (suc j + i))
  drop_both i (suc j) (x ∷ l) = drop_both i j l ∙ ap (λ n. drop n (x ∷ l)) {x = suc (j + i)} {y = suc j + i} (omega arith)

  drop_front : (j : ℕ) (k l : List A) → j ≤ length k → drop j k ++ l ≡ drop j (k ++ l)
  drop_front zero k l h = refl
  drop_front (suc j) [] l h = absurd (omega arith)
  drop_front (suc j) (x ∷ k) l h = drop_front j k l (omega arith)

  -- what is let go first isn't among the last
  pub newest-less : (m n : ℕ) (k l : List A) → m ≤ n + length l → last_of m (last_of n k ++ l) ≡ last_of m (k ++ l)
  unfolding last_of
  newest-less m n k l h =
      let j : ℕ = length k - n in
      let front = drop_front j k l (omega arith) in
      let all = length-append k l in
      let some = length-append (drop j k) l in
      let less = length-drop j k in
      ap (λ (q : List A). drop (length (drop j k ++ l) - m) q) front
      ∙ drop_both (length (drop j k ++ l) - m) j (k ++ l)
      ∙ ap (λ i. drop i (k ++ l)) (omega arith)

  pub newest-all : (m : ℕ) (l : List A) → length l ≤ m → last_of m l ≡ l
  unfolding last_of
  newest-all m l h = ap (λ i. drop i l) {x = length l - m} {y = 0} (omega arith)

  pub newest-long : (m : ℕ) (l : List A) → length (last_of m l) ≤ m
  unfolding last_of
  newest-long m l = let e = length-drop (length l - m) l in omega arith

  -- the last but one, and one more
  pub newest-more : (m : ℕ) (k l : List A) (x : A) → 0 < m → last_of m ((last_of (m - 1) k ++ (x ∷ [])) ++ l) ≡ last_of m (k ++ (x ∷ l))
  newest-more m k l x z =
      ap (last_of m) (append_assoc (last_of (m - 1) k) (x ∷ []) l) ∙ newest-less m (m - 1) k (x ∷ l) (omega arith)

  pub drop-all : (l : List A) → drop (length l) l ≡ []
  drop-all [] = refl
  drop-all (x ∷ l) = drop-all l

-- of a list that is turned round, one more from its end
pub turned_more : {A B : Type 0} (f : A → B) (l : List A) (n : ℕ) (x d : A) → n < length l → x ≡ get_or l n d → reverse (map f (drop n l)) ≡ reverse (map f (drop (suc n) l)) ++ (f x ∷ [])
turned_more f l n x d h e = ap (λ k. reverse (map f k)) (drop_next l n x d h e) ∙ reverse-append (f x ∷ []) (map f (drop (suc n) l))
  where
    drop_next : {A : Type 0} (l : List A) (n : ℕ) (x d : A) → n < length l → x ≡ get_or l n d → drop n l ≡ x ∷ drop (suc n) l
    drop_next [] n x d h e = absurd (omega arith)
    drop_next (y ∷ l) zero x d h e = ap (λ z. z ∷ l) (sym e)
    drop_next (y ∷ l) (suc n) x d h e = drop_next l n x d (omega arith) e

-- how many they are
pub length-newest : {A : Type 0} (m : ℕ) (l : List A) → length (last_of m l) ≡ lesser_of m (length l)
unfolding last_of
length-newest m l =
    let e = length-drop (length l - m) l in
    elim (leb_tells m (length l)) [
      | inl h ↦ (let a : length (drop (length l - m) l) ≡ m = omega (arith, h.1) in a) ∙ ap (λ (b : Bool). cond b m (length l)) (sym h.0)
      | inr h ↦ (let a : length (drop (length l - m) l) ≡ length l = omega (arith, h.1) in a) ∙ ap (λ (b : Bool). cond b m (length l)) (sym h.0)
    ]
