-- Names of soft forks are ASCII.
use Rattle.std.proofs.Common.{◌≡◌, ℕ, zero, suc, Bool, true, false, ◌&&◌, nat_lt, List, [], ◌∷◌, Option, Some, None, refl, ap, ◌∙◌, arith}
use Rattle.std.proofs.lemmas.Bool.{ltb-true}
use Rattle.std.specs.Str.{bytes_eq, IsAscii, IsUtf8}
use Rattle.std.proofs.lemmas.Slice.Eq.{bytes_eq-Decides}
use Rattle.std.proofs.lemmas.Str.{IsUtf8-from_ascii}
use Rattle.rules.specs.declared.deployment.Deployment.{Deployment}
use Rattle.rules.specs.declared.params.Params.{Params}
use Rattle.rules.specs.Deployment.{names, named_among, deployment_named}
use Rattle.ffi.specs.Answers.{IsHeightSet}

ascii : List ℕ → Bool
ascii [] = true
ascii (b ∷ bs) = nat_lt b 128 && ascii bs

both : (a b : Bool) → (a && b) ≡ true → (a ≡ true) × (b ≡ true)
both true true e = (refl, refl)
both true false e = absurd cc
both false b e = absurd cc

ascii-sound : (bs : List ℕ) → ascii bs ≡ true → IsAscii bs
unfolding ascii
ascii-sound [] all i = omega arith
ascii-sound (b ∷ bs) all zero = ltb-true b 128 (both (nat_lt b 128) (ascii bs) all).0
ascii-sound (b ∷ bs) all (suc i) = ascii-sound bs (both (nat_lt b 128) (ascii bs) all).1 i

all_ascii : List (List ℕ × Deployment) → Bool
all_ascii [] = true
all_ascii (row ∷ rows) = ascii row.0 && all_ascii rows

among-ascii : (rows : List (List ℕ × Deployment)) (name : List ℕ) (deployment : Deployment) → all_ascii rows ≡ true → named_among rows name ≡ Some deployment → ascii name ≡ true
unfolding ascii all_ascii
among-ascii [] name deployment all is = absurd cc
among-ascii (row ∷ rows) name deployment all is = by (bytes_eq name row.0) refl (among-ascii rows name deployment parts.1)
  where
    parts : (ascii row.0 ≡ true) × (all_ascii rows ≡ true)
    parts = both (ascii row.0) (all_ascii rows) all

    by : (same : Bool) → bytes_eq name row.0 ≡ same → (named_among rows name ≡ Some deployment → ascii name ≡ true) → ascii name ≡ true
    by true same others = ap ascii ((bytes_eq-Decides name row.0).0 same) ∙ parts.0
    by false same others = others (rw same at is)

pub named-utf8 : (name : List ℕ) (deployment : Deployment) → deployment_named name ≡ Some deployment → IsUtf8 name
unfolding ascii all_ascii
named-utf8 name deployment is = IsUtf8-from_ascii name (ascii-sound name (among-ascii names name deployment refl is))

-- what is no text is no name
pub no-text : (name : List ℕ) (height : ℕ) (before : Params) → ¬ (IsUtf8 name) → IsHeightSet (deployment_named name) height before before 4
no-text name height before none = by (deployment_named name) refl
  where
    by : (o : Option Deployment) → deployment_named name ≡ o → IsHeightSet o height before before 4
    by None is = (refl, refl)
    by (Some deployment) is = absurd (none (named-utf8 name deployment is))
