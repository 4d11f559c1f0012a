-- What is answered of a list of verdicts: the first that is no, or what has to be found out before that.
use Rattle.std.proofs.Common.{◌≢◌}
use Rattle.std.specs.Prelude.{◌≡◌, ℕ, zero, suc, ◌<◌, ◌≤◌, Bool, true, false, List, [], ◌∷◌, ◌++◌, length, Option, Some, None, IfSome, Result, Ok, Err}
use Rattle.signatures.specs.Triple.{Triple}
use Rattle.interp.specs.Answer.{Answer, Says, Wants}

abbrev pub want_of : Answer Bool → List Triple
want_of (Says answer) = []
want_of (Wants t) = t ∷ []

-- what is wanted at the places below one, in their order
unfoldable pub wants_below : (ℕ → Answer Bool) → ℕ → List Triple
wants_below verdict zero = []
wants_below verdict (suc n) = wants_below verdict n ++ want_of (verdict n)

module _ (count : ℕ) (verdict : ℕ → Answer Bool) where
  -- no verdict below this place is no
  abbrev pub NoneRefused : ℕ → Type 0
  NoneRefused end = (place : ℕ) → place < end → verdict place ≢ Says false

  -- this is the first place with a no, or the end
  pub record IsEnd (end : ℕ) : Type 0 where
    pub inside : end ≤ count
    pub before : NoneRefused end
    pub refused : end < count → verdict end ≡ Says false

  -- each verdict is yes; or it is no at this place, and yes at each before it
  abbrev pub IsFirst : Option ℕ → Type 0
  IsFirst None = (place : ℕ) → place < count → verdict place ≡ Says true
  IsFirst (Some least) = (least < count) × (verdict least ≡ Says false) × ((place : ℕ) → place < least → verdict place ≡ Says true)

  -- these are all that is wanted before the first no, in order, and there is one
  abbrev pub AreTheWants : List Triple → Type 0
  AreTheWants list = (0 < length list) × (end : ℕ) × IsEnd end × (list ≡ wants_below verdict end)

  -- the answer, or what is missing; of memory nothing is said
  abbrev pub Told : {E : Type 0} → (E → Option (List Triple)) → Result (Option ℕ) E → Type 0
  Told told (Ok place) = IsFirst place
  Told told (Err stop) = IfSome (told stop) AreTheWants

-- what two stops tell, one behind the other; out of memory neither is told
abbrev pub AreOfBoth : Option (List Triple) → Option (List Triple) → List Triple → Type 0
AreOfBoth None other list = ⊥
AreOfBoth (Some first) None list = ⊥
AreOfBoth (Some first) (Some other) list = list ≡ first ++ other
