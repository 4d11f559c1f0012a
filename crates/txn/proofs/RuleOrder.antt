-- Rules after others that are not broken.
use Rattle.std.proofs.Common.{◌≡◌, ◌↔◌, ◌==◌, length, Bool, true, false, List, [], ◌∷◌, ◌++◌, Option, Some, None, refl, sym, ap, ◌∙◌}
use Rattle.std.proofs.Math.Dec.{eqb-suc-zero}
use Rattle.std.specs.Option.{option_or}
use Rattle.txn.specs.declared.reason.Reason.{Reason}
use Rattle.txn.specs.First.{Rules, first_broken}
use Rattle.txn.specs.laws.First.{first_of_both}

-- after two rules that are not, the first broken one of xs and then ys
two : (a b : Bool) (r s : Reason) (xs ys : Rules) → a ≡ false → b ≡ false → first_broken ((a, r) ∷ (b, s) ∷ xs ++ ys) ≡ option_or (first_broken xs) (first_broken ys)
two a b r s xs ys ha hb = rw (ha, hb) (first_of_both xs ys)

pub among : (a b : Bool) (r s : Reason) (xs ys : Rules) (reason : Reason) → a ≡ false → b ≡ false → first_broken xs ≡ Some reason → Some reason ≡ first_broken ((a, r) ∷ (b, s) ∷ xs ++ ys)
among a b r s xs ys reason ha hb found = sym (two a b r s xs ys ha hb ∙ ap (λ (o : Option Reason). option_or o (first_broken ys)) found)

pub after : (a b : Bool) (r s : Reason) (xs ys : Rules) (found : Option Reason) → a ≡ false → b ≡ false → first_broken xs ≡ None → found ≡ first_broken ys → found ≡ first_broken ((a, r) ∷ (b, s) ∷ xs ++ ys)
after a b r s xs ys found ha hb none e = e ∙ sym (two a b r s xs ys ha hb ∙ ap (λ (o : Option Reason). option_or o (first_broken ys)) none)

pub not_empty : {X : Type 0} (xs : List X) (r : Bool) → (r ≡ true) ↔ (xs ≡ []) → r ≡ false → (length xs == 0) ≡ false
not_empty [] r h e = let none : true ≡ false = sym (h.1 refl) ∙ e in absurd cc
not_empty (x ∷ xs) r h e = eqb-suc-zero (length xs)
