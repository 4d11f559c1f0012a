-- The block that bytes spell, if they spell one.
use Rattle.std.specs.Prelude.{◌≡◌, ◌⊎◌, Bool, false, ℕ, List, [], ◌∷◌, Option, Some, None, Result, Ok, Err}
use Rattle.wire.specs.declared.fault.WireFault.{WireFault}
use Rattle.block.specs.declared.block.Block.{Block}
use Rattle.block.specs.declared.fault.ReadFault.{ReadFault}
use Rattle.block.specs.declared.fault.ReadFault.TheVariants as faults
use Rattle.block.specs.computed.Reader.{block_by_at}

-- a block with nothing behind it
abbrev pub unless_more : Block → List ℕ → Option Block
unless_more b [] = Some b
unless_more b (x ∷ xs) = None

abbrev pub whole_block : Result (Block × List ℕ) WireFault → Option Block
whole_block (Ok x) = unless_more x.0 x.1
whole_block (Err fault) = None

-- the block that the bytes spell, all of them, with witnesses (BIP 144) or without
abbrev pub block_of_bytes_by : Bool → List ℕ → Option Block
block_of_bytes_by has_flag bytes = whole_block (block_by_at has_flag bytes)

-- without witnesses
abbrev pub block_of_bytes : List ℕ → Option Block
block_of_bytes = block_of_bytes_by false

-- a call's answer is that block, or says that there is none, or that memory ran out
abbrev pub Decodes : Result Block ReadFault → Option Block → Type 0
Decodes (Ok b) found = found ≡ Some b
Decodes (Err e) found = (e ≡ faults.Memory) ⊎ (found ≡ None)
