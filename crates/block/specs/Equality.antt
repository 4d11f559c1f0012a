-- Whether two blocks are equal, field by field.
use Rattle.std.specs.Prelude.{◌==◌, ◌&&◌, Bool, List}
use Rattle.std.specs.Ordering.{int_eq}
use lib.Pointwise.{pointwise}
use Rattle.hash.specs.Id.{same_id}
use Rattle.txn.specs.Tx.{Tx}
use Rattle.txn.specs.Equality.{same_tx}
use Rattle.block.specs.declared.header.Header.{Header}
use Rattle.block.specs.declared.block.Block.{Block}

abbrev pub same_header : Header → Header → Bool
same_header a b =
    int_eq a.version b.version && same_id a.prev b.prev && same_id a.root b.root
    && (a.time == b.time) && (a.bits == b.bits) && (a.nonce == b.nonce)

abbrev pub same_txs : List Tx → List Tx → Bool
same_txs = pointwise same_tx

abbrev pub same_block : Block → Block → Bool
same_block a b = same_header a.header b.header && same_txs a.txs b.txs
