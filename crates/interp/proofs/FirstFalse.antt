-- The place of the first branch that isn't taken tells whether all are.
use Rattle.std.proofs.Common.{◌≡◌, ℕ, ◌<◌, List, [], ◌∷◌, Bool, true, false, ◌&&◌, not, eqb, Option, Some, None, is_some, length, refl, sym, ap, ◌∙◌, arith}
use Rattle.std.specs.Option.{option_eq}
use Rattle.std.specs.List.{list_all}
use borrow.Author.Tests.{eqb-true}
use Rattle.interp.specs.computed.Conditions.{or_top, first_false}

-- it is one of the places
below-by : (cs : List Bool) (c : Bool) (low : Option ℕ) (k : ℕ) → ((j : ℕ) → low ≡ Some j → j < length cs) → or_top low c (length cs) ≡ Some k → k < length (c ∷ cs)
below-by cs c (Some j) k below e = let same : j ≡ k = cc in let b = below j refl in omega (arith, same, b)
below-by cs true None k below e = cc
below-by cs false None k below e = let same : length cs ≡ k = cc in omega (arith, same)

first_below : (cs : List Bool) (k : ℕ) → first_false cs ≡ Some k → k < length cs
first_below [] k e = cc
first_below (c ∷ cs) k e = below-by cs c (first_false cs) k (first_below cs) e

-- there is one exactly where not all are taken
some-by : (cs : List Bool) (c : Bool) (low : Option ℕ) → not (list_all (λ taken. taken) cs) ≡ is_some low → not (c && list_all (λ taken. taken) cs) ≡ is_some (or_top low c (length cs))
some-by cs true (Some j) e = e
some-by cs false (Some j) e = refl
some-by cs true None e = e
some-by cs false None e = refl

some-untaken : (cs : List Bool) → not (list_all (λ taken. taken) cs) ≡ is_some (first_false cs)
some-untaken [] = refl
some-untaken (c ∷ cs) = some-by cs c (first_false cs) (some-untaken cs)

not_same : (a b : Bool) → not a ≡ not b → a ≡ b
not_same true true e = refl
not_same true false e = sym e
not_same false true e = sym e
not_same false false e = refl

pub all-taken : (cs : List Bool) (o : Option ℕ) (b : Bool) → o ≡ first_false cs → is_some o ≡ not b → b ≡ list_all (λ taken. taken) cs
all-taken cs o b is e = not_same b (list_all (λ taken. taken) cs) (sym e ∙ ap is_some is ∙ sym (some-untaken cs))

-- where the one on top was the first, there is none below
closed-by : (cs : List Bool) (c : Bool) (low : Option ℕ) (k : ℕ) → first_false cs ≡ low → k ≡ length cs → or_top low c (length cs) ≡ Some k → None ≡ first_false cs
closed-by cs c None k is here e = sym is
closed-by cs c (Some j) k is here e = let same : j ≡ k = cc in let b = first_below cs j is in absurd (omega (arith, same, here, b))

pub closed-first : (cs : List Bool) (c : Bool) (o : Option ℕ) (k : ℕ) → o ≡ first_false (c ∷ cs) → k ≡ length cs → true ≡ option_eq eqb o (Some k) → None ≡ first_false cs
closed-first cs c None k is here e = cc
closed-first cs c (Some j) k is here e =
    let same : j ≡ k = eqb-true j k (sym e) in closed-by cs c (first_false cs) k refl here (sym is ∙ ap Some same)
