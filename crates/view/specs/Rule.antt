-- The rule of what is published.
use Rattle.std.specs.Prelude.{◌≡◌}
use Rattle.view.specs.Origin.{Origin}
use Rattle.view.specs.ViewState.{ViewState, IsExact}

-- it is legal, with the state after it, and of this origin
abbrev pub IsExactOf : Origin → ViewState → Type 0
IsExactOf o x = IsExact x × (x.origin ≡ o)
