-- The limit on the tree.
use Rattle.std.specs.Prelude.{ℕ}

-- so many blocks are kept, genesis among them
abbrev pub max_blocks : ℕ
max_blocks = 1000000
