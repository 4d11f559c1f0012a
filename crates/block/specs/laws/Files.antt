-- A whole file, and a run of calls that read it: what the laws speak of.
use Rattle.std.specs.Prelude.{◌≡◌, ◌⊎◌, ℕ, ◌≤◌, List, [], ◌∷◌, ◌++◌, length}
use Rattle.std.specs.List.{AllByRecursion, flat_map}
use Rattle.wire.specs.Numbers.{limit}
use Rattle.block.specs.Blk.{record_bytes, IsRecord, IsEnd, IsForeign, IsCut, IsTooLong}

-- a file: the records of these blocks, in order, and then a rest at whose front no record stands
pub record Splits (file : List ℕ) (blocks : List (List ℕ)) (rest : List ℕ) : Type 0 where
  pub whole : file ≡ flat_map record_bytes blocks ++ rest
  pub each : AllByRecursion (λ block. length block ≤ limit) blocks
  pub last : (block after : List ℕ) → IsRecord block rest after → ⊥

-- a run of calls that gave these blocks: each block's record was next, and left what came after it
abbrev pub Gave : List ℕ → List (List ℕ) → List ℕ → Type 0
Gave rest [] last = rest ≡ last
Gave rest (block ∷ blocks) last = (after : List ℕ) × IsRecord block rest after × Gave after blocks last

-- what a call tells that finds no block: the end, or a fault of the bytes
abbrev pub IsLast : List ℕ → Type 0
IsLast rest = IsEnd rest ⊎ IsForeign rest ⊎ IsCut rest ⊎ IsTooLong rest
