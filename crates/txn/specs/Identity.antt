-- The ids of transactions.
use Rattle.std.specs.Prelude.{List, map}
use Rattle.hash.specs.Double.{double_sha}
use Rattle.hash.specs.declared.id.Id.{Id}
use Rattle.txn.specs.Tx.{Tx}
use Rattle.txn.specs.Grammar.{transaction}

-- double SHA-256 of its spelling
abbrev pub id_of : Tx → Id
id_of t = record { 0 = double_sha (transaction.spell t) }

abbrev pub ids_of : List Tx → List Id
ids_of txs = map id_of txs
