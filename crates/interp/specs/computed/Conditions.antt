-- Where the first branch lies that isn't taken.
use Rattle.std.specs.Prelude.{ℕ, List, [], ◌∷◌, length, Bool, true, false, Option, Some, None}

-- the place of the first below, else that of the top where its branch isn't taken
abbrev pub or_top : Option ℕ → Bool → ℕ → Option ℕ
or_top (Some place) taken top = Some place
or_top None true top = None
or_top None false top = Some top

-- the place of the first condition whose branch isn't taken, from the outermost; the innermost stands first
abbrev pub first_false : List Bool → Option ℕ
first_false [] = None
first_false (taken ∷ below) = or_top (first_false below) taken (length below)
