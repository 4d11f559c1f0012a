-- What a log knows of itself is a fact: there is one way for it to hold.
use Rattle.std.specs.Prelude.{ℕ, Bool, not, List, [], ◌∷◌, ◌==◌}
use denote.Struct.Props as logic
use Rattle.durable.specs.Lines.{AreWhole}
use Rattle.durable.specs.KeptSteps.{Told, AreUpTo}

pub whole-prop : (begun : Bool) (text : List ℕ) → IsProp (AreWhole begun text)
whole-prop begun [] = Prim.hlevel logic.props
whole-prop begun (b ∷ text) = Prim.hlevel (logic.props, whole-prop (not (b == 10)) text)

pub up_to-prop : (n : ℕ) (answers : List Told) → IsProp (AreUpTo n answers)
up_to-prop n [] = Prim.hlevel logic.props
up_to-prop n (answer ∷ answers) = Prim.hlevel (logic.props, up_to-prop n answers)
