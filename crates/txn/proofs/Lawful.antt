-- Lists within the limits, each of whose parts is lawful where its script isn't too long.
use Rattle.std.proofs.Common.{◌≡◌, ℕ, ◌+◌, ◌<◌, ◌≤◌, List, [], ◌∷◌, ◌++◌, length, take, get_or, refl, sym, subst, ap, ◌∙◌}
use Rattle.std.specs.List.{All}
use Rattle.std.proofs.lemmas.Grind.{take_at_read}
use Rattle.std.proofs.lemmas.List.{take_all}
use Rattle.std.proofs.lemmas.List.Elements.{All-push, recursion_from_All}
use Rattle.wire.specs.Numbers.{limit}
use Rattle.wire.specs.Grammar.{Grammar, times, counted_list}

module _ {A : Type 0} (part : Grammar A) (script : A → List ℕ) where
  -- lawful where its script isn't too long
  abbrev pub IfShort : A → Type 0
  IfShort x = length (script x) ≤ limit → part.Lawful x

  -- one more part
  pub one_more : (xs : List A) (k : ℕ) (x : A) → k < length xs → x ≡ get_or xs k x → All IfShort (take k xs) → IfShort x → All IfShort (take (k + 1) xs)
  one_more xs k x lt is before this =
      let next : take (k + 1) xs ≡ take k xs ++ x ∷ [] = (take_at_read xs k x lt).1 ∙ ap (λ (y : A). take k xs ++ y ∷ []) (sym is) in
      subst (All IfShort) (sym next) (All-push IfShort (take k xs) x before this)

  -- all of them
  pub all_lawful : (xs ys : List A) (k : ℕ) → length ys ≤ k → xs ≡ ys → All IfShort (take k ys) → (length xs ≤ limit) × All (λ x. length (script x) ≤ limit) xs → (counted_list part).Lawful xs
  all_lawful xs ys k whole same each (count, short) =
      let every : All IfShort xs = subst (All IfShort) (take_all k ys whole ∙ sym same) each in
      (count, (refl, recursion_from_All part.Lawful xs (λ k d lt. every k d lt (short k d lt))))

module _ {A : Type 0} (part : Grammar A) (Within : A → Type 0) where
  -- lawful where it is within its limits
  abbrev pub IfWithin : A → Type 0
  IfWithin x = Within x → part.Lawful x

  pub one_more_within : (xs : List A) (k : ℕ) (x : A) → k < length xs → x ≡ get_or xs k x → All IfWithin (take k xs) → IfWithin x → All IfWithin (take (k + 1) xs)
  one_more_within xs k x lt is before this =
      let next : take (k + 1) xs ≡ take k xs ++ x ∷ [] = (take_at_read xs k x lt).1 ∙ ap (λ (y : A). take k xs ++ y ∷ []) (sym is) in
      subst (All IfWithin) (sym next) (All-push IfWithin (take k xs) x before this)

  pub all_within : (xs ys : List A) (k : ℕ) → length ys ≤ k → xs ≡ ys → All IfWithin (take k ys) → All Within xs → (times part (length xs)).Lawful xs
  all_within xs ys k whole same each within =
      let every : All IfWithin xs = subst (All IfWithin) (take_all k ys whole ∙ sym same) each in
      (refl, recursion_from_All part.Lawful xs (λ k d lt. every k d lt (within k d lt)))
