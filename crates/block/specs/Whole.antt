-- Bytes that are to be a block and nothing else.
use Rattle.std.specs.Prelude.{◌≡◌, Bool, false, ℕ, ◌<◌, List, ◌++◌, length}
use Rattle.wire.specs.declared.fault.WireFault.TheVariants as wire
use Rattle.block.specs.declared.block.Block.{Block}
use Rattle.block.specs.declared.fault.ReadFault.{ReadFault}
use Rattle.block.specs.declared.fault.ReadFault.TheVariants.{Short, LongForm, TooLarge, Extra, Memory}
use Rattle.block.specs.Grammar.{block_by}

-- a whole block with bytes behind it
abbrev pub HasExtra : Bool → List ℕ → Type 0
HasExtra has_flag bytes = (b : Block) × (rest : List ℕ) × (block_by has_flag).Lawful b × (bytes ≡ (block_by has_flag).spell b ++ rest) × (0 < length rest)

-- the fault of bytes that are no block; that memory runs out is none of theirs
abbrev pub FaultyBy : Bool → ReadFault → List ℕ → Type 0
FaultyBy has_flag Short bytes = (block_by has_flag).Faulty wire.Short bytes
FaultyBy has_flag LongForm bytes = (block_by has_flag).Faulty wire.LongForm bytes
FaultyBy has_flag TooLarge bytes = (block_by has_flag).Faulty wire.TooLarge bytes
FaultyBy has_flag Extra bytes = HasExtra has_flag bytes
FaultyBy has_flag Memory bytes = ⊥

-- without witnesses
abbrev pub Faulty : ReadFault → List ℕ → Type 0
Faulty = FaultyBy false
