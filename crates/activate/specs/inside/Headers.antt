-- A header at the front of bytes.
use Rattle.std.specs.Prelude.{◌≡◌, ℕ, List, ◌++◌, length}
use Rattle.block.specs.Grammar.{header}
use Rattle.block.specs.declared.header.Header.{Header}

-- the first 80 bytes spell it
abbrev pub IsHeaderAtFront : Header → List ℕ → Type 0
IsHeaderAtFront h bytes = (length (header.spell h) ≡ 80) × ((rest : List ℕ) × (bytes ≡ header.spell h ++ rest))
