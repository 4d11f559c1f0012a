-- What stands behind the four heights of a word.
use Rattle.std.specs.Prelude.{◌≡◌, ℕ, List, ◌∷◌}
use Rattle.std.specs.List.{join_with_byte}
use Rattle.rules.specs.declared.params.Params.{Params}
use Rattle.journal.specs.Heights.{Sets}

-- each sets the height of a soft fork by name; one at least, parted by commas
abbrev pub AreSets : List ℕ → Params → Params → Type 0
AreSets text before after =
    (first : List ℕ) × (others : List (List ℕ)) × (text ≡ join_with_byte 0x2c (first ∷ others)) × Sets (first ∷ others) before after
