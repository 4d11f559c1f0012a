-- Parts of a text that commas part.
use Rattle.std.proofs.Common.{◌≡◌, ◌≢◌, ◌⊎◌, inr, ℕ, zero, suc, ◌+◌, ◌-◌, ◌<◌, Bool, true, false, not, ◌&&◌, List, [], ◌∷◌, ◌++◌, length, get_or, Option, Some, None, refl, sym, ap, subst, ◌∙◌, ⊎_elim, arith, ◌==◌}
use Rattle.std.specs.Borrow.{Bor}
use Rattle.std.specs.Prelude.{MatchOption}
use Rattle.std.specs.Int.{IsInRange}
use Rattle.std.specs.Str.{bytes_eq}
use Rattle.std.specs.Str.Parse.{IsNumeral}
use Rattle.std.proofs.lemmas.Bool.{cases_lt, eq-eqb}
use Rattle.std.proofs.lemmas.List.{get_or_append_left, get_or-append-add, length-append}
use Rattle.std.proofs.lemmas.Slice.Eq.{bytes_eq-Decides}
use Rattle.std.proofs.lemmas.Str.Parse.{digit_at}
use Rattle.std.proofs.lemmas.Str.Pattern.{IsSplitOnceResult, split_after}
use Rattle.rules.specs.declared.deployment.Deployment.{Deployment}
use Rattle.rules.specs.Deployment.{names, named_among, deployment_named}
use Rattle.journal.specs.Heights.{IsNamed}

-- a byte doesn't stand in the text
abbrev pub Lacks : ℕ → List ℕ → Type 0
Lacks c text = (i : ℕ) → i < length text → get_or text i 0 ≢ c

pub lacks-append : (c : ℕ) (xs ys : List ℕ) → Lacks c xs → Lacks c ys → Lacks c (xs ++ ys)
lacks-append c xs ys none others i below =
    ⊎_elim (λ front same. none i front (sym (get_or_append_left xs ys 0 i front) ∙ same))
    (λ back same.
    let at : length xs + (i - length xs) ≡ i = omega (arith, back) in
    others (i - length xs) (omega (arith, below, back, length-append xs ys))
    (sym (get_or-append-add xs ys (i - length xs) 0) ∙ ap (λ n. get_or (xs ++ ys) n 0) at ∙ same)) (cases_lt i (length xs))

-- a numeral has digits alone
pub numeral-lacks : (c : ℕ) (digits : List ℕ) → 57 < c ⊎ c < 48 → IsNumeral 10 digits → Lacks c digits
numeral-lacks c digits other numeral i below same =
    let digit : IsInRange 48 57 (get_or digits i 0) = digit_at digits i numeral.1 below in
    ⊎_elim (λ above. omega (arith, same, digit.0, digit.1, above)) (λ under. omega (arith, same, digit.0, digit.1, under)) other

-- no name of a soft fork has it
abbrev pub lacks : ℕ → List ℕ → Bool
lacks c [] = true
lacks c (x ∷ xs) = not (x == c) && lacks c xs

both : (a b : Bool) → (a && b) ≡ true → (a ≡ true) × (b ≡ true)
both true true e = (refl, refl)
both true false e = absurd cc
both false b e = absurd cc

lacks-sound : (c : ℕ) (text : List ℕ) → lacks c text ≡ true → Lacks c text
lacks-sound c [] all i below same = omega (arith, below)
lacks-sound c (x ∷ xs) all zero below same = (let none : (not (x == c) && lacks c xs) ≡ false = rw (eq-eqb x c same) refl in let both : true ≡ false = sym all ∙ none in absurd cc)
lacks-sound c (x ∷ xs) all (suc i) below same = lacks-sound c xs (both (not (x == c)) (lacks c xs) all).1 i (omega (arith, below)) same

abbrev pub all_lack : ℕ → List (List ℕ × Deployment) → Bool
all_lack c [] = true
all_lack c (row ∷ rows) = lacks c row.0 && all_lack c rows

among-lacks : (c : ℕ) (rows : List (List ℕ × Deployment)) (name : List ℕ) (deployment : Deployment) → all_lack c rows ≡ true → named_among rows name ≡ Some deployment → lacks c name ≡ true
among-lacks c [] name deployment all is = absurd cc
among-lacks c (row ∷ rows) name deployment all is = by (bytes_eq name row.0) refl (among-lacks c rows name deployment parts.1)
  where
    parts : (lacks c row.0 ≡ true) × (all_lack c rows ≡ true)
    parts = both (lacks c row.0) (all_lack c rows) all

    by : (same : Bool) → bytes_eq name row.0 ≡ same → (named_among rows name ≡ Some deployment → lacks c name ≡ true) → lacks c name ≡ true
    by true same others = ap (lacks c) ((bytes_eq-Decides name row.0).0 same) ∙ parts.0
    by false same others = others (rw same at is)

pub name-lacks : (c : ℕ) (name : List ℕ) (deployment : Deployment) → all_lack c names ≡ true → deployment_named name ≡ Some deployment → Lacks c name
name-lacks c name deployment all is = lacks-sound c name (among-lacks c names name deployment all is)

pub comma-free : (text : List ℕ) (deployment : Deployment) (n : ℕ) → IsNamed text deployment n → Lacks 44 text
comma-free text deployment n named =
    subst (Lacks 44) (sym named.text_is)
    (lacks-append 44 named.name (64 ∷ named.digits) (name-lacks 44 named.name deployment refl named.is_named)
    (lacks-append 44 (64 ∷ []) named.digits (lacks-sound 44 (64 ∷ []) refl) (numeral-lacks 44 named.digits (inr (omega arith)) named.height_is.0)))

pub at-free : (name : List ℕ) (deployment : Deployment) → deployment_named name ≡ Some deployment → Lacks 64 name
at-free name deployment is = name-lacks 64 name deployment refl is

-- ---- `split_once`
abbrev pub Split : Type 0
Split = Option (Bor (List ℕ) × Bor (List ℕ))

none-found : (c : ℕ) (text front back : List ℕ) (r : Split) → IsSplitOnceResult c text r → c < 128 → text ≡ front ++ (c ∷ back) → Lacks c front → MatchOption r ⊥ (λ x. (x.0.now ≡ front) × (x.1.now ≡ back))
none-found c text front back r split small is none = split_after c text front back r split small is none

-- where a part that lacks the byte stands before one
pub is-found : (c : ℕ) (text front back : List ℕ) (r : Split) → IsSplitOnceResult c text r → c < 128 → text ≡ front ++ (c ∷ back) → Lacks c front → r ≡ None → ⊥
is-found c text front back r split small is none e = subst (λ (o : Split). MatchOption o ⊥ (λ x. (x.0.now ≡ front) × (x.1.now ≡ back))) e (none-found c text front back r split small is none)

pub found-parts : (c : ℕ) (text front back : List ℕ) (r : Split) (a b : Bor (List ℕ)) → IsSplitOnceResult c text r → c < 128 → text ≡ front ++ (c ∷ back) → Lacks c front → r ≡ Some (a, b) → (a.now ≡ front) × (b.now ≡ back)
found-parts c text front back r a b split small is none e = subst (λ (o : Split). MatchOption o ⊥ (λ x. (x.0.now ≡ front) × (x.1.now ≡ back))) e (none-found c text front back r split small is none)
