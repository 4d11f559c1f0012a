-- A block and its parts, in order.
use Rattle.std.specs.Prelude.{Bool, false}
use Rattle.wire.specs.Grammar.{Grammar, piece, number, signed32, pair, counted_list, fields}
use Rattle.txn.specs.WitnessGrammar.{transaction_by}
use Rattle.hash.specs.declared.id.Id.{Id}
use Rattle.block.specs.declared.header.Header.{Header}
use Rattle.block.specs.declared.block.Block.{Block}

abbrev pub id : Grammar Id
id = fields (λ x. x.0) (piece 32)

abbrev pub header : Grammar Header
header = fields (λ h. (h.version, (h.prev, (h.root, (h.time, (h.bits, h.nonce)))))) (pair signed32 (pair id (pair id (pair (number 4) (pair (number 4) (number 4))))))

-- its transactions with witnesses (BIP 144), or without
abbrev pub block_by : Bool → Grammar Block
block_by has_flag = fields (λ b. (b.header, b.txs)) (pair header (counted_list (transaction_by has_flag)))

-- without witnesses
abbrev pub block : Grammar Block
block = block_by false
