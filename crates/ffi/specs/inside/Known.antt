-- Why nothing is known by two tables, by its number.
use Rattle.std.specs.Prelude.{◌≡◌, ◌⊎◌, ℕ, List}
use Rattle.signatures.specs.Known.{Verdicts, AreApart}
use Rattle.signatures.specs.Lines.{IsFirstBad}
use Rattle.ffi.specs.Known.{AreOf}

-- a triple is in both, a line of one can't be read, which is reported, or memory ran out
abbrev pub IsNoKnown : List (List ℕ) → List (List ℕ) → ℕ → ℕ → ℕ → Type 0
IsNoKnown valid invalid before line code =
    ((found : Verdicts) × AreOf valid invalid found × (AreApart found.valid found.invalid → ⊥) × (line ≡ before) × (code ≡ 30))
    ⊎ (((IsFirstBad valid line ⊎ IsFirstBad invalid line) × (code ≡ 3))
    ⊎ ((line ≡ before) × (code ≡ 1)))
