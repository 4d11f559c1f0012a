-- What is known of signatures, and which sets of valid signatures agree with it.
use Rattle.std.specs.Prelude.{◌≡◌, Bool, true, false, Option, Some, None, refl, if◌then◌else◌}
use Rattle.std.specs.FinSet as set
use Rattle.std.specs.Coded.{Coded, code_by, coded×}
use Rattle.signatures.specs.Triple.{Triple, Triples, coded_triple}

-- the verdict on each triple of which one is known
abbrev pub Known : Type 0
Known = Triple → Option Bool

-- a set has each triple that is known to be valid, and lacks each that is known not to be
abbrev pub Agrees : Known → Triples → Type 0
Agrees known triples = (t : Triple) → (valid : Bool) → known t ≡ Some valid → set.contains triples t ≡ valid

-- with a table all is known: its triples are valid, and no others
abbrev pub all_known : Triples → Known
all_known table t = Some (set.contains table t)

-- so it is under every set that agrees
abbrev pub Under : Known → (Triples → Type 0) → Type 0
Under known P = (triples : Triples) → Agrees known triples → P triples

-- triples that were found valid, and others that were found not to be
pub record Verdicts : Type 0 where
  pub valid : Triples
  pub invalid : Triples

-- they are stored as the pair of both sets
abbrev pub coded_verdicts : Coded Verdicts
coded_verdicts = code_by (Triples × Triples) (coded× (set.code coded_triple) (set.code coded_triple)) (λ found. (found.valid, found.invalid)) (λ p. record { valid = p.0; invalid = p.1 }) (λ _. refl)

-- no triple is in both sets
abbrev pub AreApart : Triples → Triples → Type 0
AreApart valid invalid = (t : Triple) → set.contains valid t ≡ true → set.contains invalid t ≡ false

-- the verdict on a triple that is among them
abbrev pub verdict_in : Verdicts → Known
verdict_in found t =
    if set.contains found.valid t then Some true
    else (if set.contains found.invalid t then Some false else None)

-- one verdict more
abbrev pub with_verdict : Verdicts → Triple → Bool → Verdicts
with_verdict found t valid =
    if valid then record found { valid = set.insert found.valid t }
    else record found { invalid = set.insert found.invalid t }
