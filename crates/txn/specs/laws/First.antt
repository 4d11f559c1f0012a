-- Rules in their order.
use Rattle.std.specs.Prelude.{◌≡◌, Bool, true, false, if◌then◌else◌, [], ◌∷◌, ◌++◌, Some}
use Rattle.std.specs.Option.{option_or}
use Rattle.std.proofs.Common.{refl}
use Rattle.txn.specs.First.{Rules, first_broken}

-- of rules after others
pub first_of_both : (xs ys : Rules) → first_broken (xs ++ ys) ≡ option_or (first_broken xs) (first_broken ys)
first_of_both [] ys = refl
first_of_both (rule ∷ xs) ys = at rule.0 (first_of_both xs ys)
  where
    at : (b : Bool) → first_broken (xs ++ ys) ≡ option_or (first_broken xs) (first_broken ys)
        → (if b then Some rule.1 else first_broken (xs ++ ys)) ≡ option_or (if b then Some rule.1 else first_broken xs) (first_broken ys)
    at true h = refl
    at false h = h
