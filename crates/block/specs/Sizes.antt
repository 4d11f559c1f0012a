-- The lengths of a block, and its weight (Bitcoin Core's `GetSerializeSize` and `GetBlockWeight`).
use Rattle.std.specs.Prelude.{ℕ, ◌+◌, ◌*◌, length, Bool, true, false}
use Rattle.block.specs.declared.block.Block.{Block}
use Rattle.block.specs.Grammar.{block_by}

-- the bytes of its spelling, with witnesses (BIP 144) or without
unfoldable pub size_by : Bool → Block → ℕ
size_by has_flag b = length ((block_by has_flag).spell b)

-- without witnesses
abbrev pub size_of : Block → ℕ
size_of = size_by false

-- three times the bytes without witnesses, and once those with them (BIP 141)
abbrev pub weight_of : Block → ℕ
weight_of b = 3 * size_by false b + size_by true b
