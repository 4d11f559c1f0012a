-- The block that stored bytes spell.
use Rattle.std.specs.Prelude.{ℕ, List, [], Option, Some, None}
use Rattle.std.specs.Option.{unwrap_or}
use Rattle.block.specs.declared.block.Block.{Block}
use Rattle.block.specs.BlockOfBytes.{block_of_bytes}
use Rattle.block.specs.Genesis.{header}

-- regtest's genesis block without its transaction
abbrev pub genesis_alone : Block
genesis_alone = record { header = header; txs = [] }

-- the block that the bytes spell, all of them; genesis where there are none
abbrev pub block_stored : Option (List ℕ) → Block
block_stored None = genesis_alone
block_stored (Some bytes) = unwrap_or (block_of_bytes bytes) genesis_alone
