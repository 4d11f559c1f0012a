-- What is reported about a block's bytes.
use Rattle.std.specs.Prelude.{◌≡◌, ℕ, ◌⊎◌, List, length, map, Option, None, Some}
use Rattle.txn.specs.Tx.{Tx}
use Rattle.txn.specs.Identity.{id_of}
use Rattle.block.specs.declared.block.Block.{Block}
use Rattle.ffi.specs.declared.answers.Made.{Made}
use Rattle.ffi.specs.declared.answers.Name.{Name}
use Rattle.ffi.specs.Room.{IsCounted}

abbrev pub made_of : Tx → Made
made_of t = record { id = record { bytes = (id_of t).0 }; outputs = length t.outputs }

-- A block's transactions are told; where there is no block, or no memory to read it, nothing is written.
abbrev pub IsListed : Option Block → List Made → List Made → ℕ → ℕ → ℕ → Type 0
IsListed None room rows count told result = ((result ≡ 4) ⊎ (result ≡ 1)) × (rows ≡ room) × (told ≡ count)
IsListed (Some block) room rows count told result = IsCounted (map made_of block.txs) room rows count told result
