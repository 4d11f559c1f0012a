-- Ids of transactions with their witnesses, and weights (BIP 141).
use Rattle.std.specs.Prelude.{ℕ, ◌+◌, ◌*◌, List, [], ◌∷◌, length, map, replicate}
use Rattle.hash.specs.Double.{double_sha}
use Rattle.hash.specs.declared.id.Id.{Id}
use Rattle.txn.specs.Tx.{Tx}
use Rattle.txn.specs.Grammar.{transaction}
use Rattle.txn.specs.WitnessGrammar.{witness_transaction}

-- double SHA-256 of its spelling with witnesses (`GetWitnessHash`)
abbrev pub witness_id_of : Tx → Id
witness_id_of t = record { 0 = double_sha (witness_transaction.spell t) }

-- of a block's transactions; 32 zero bytes stand for its coinbase, whose commitment can't cover itself
-- (`BlockWitnessMerkleRoot`)
abbrev pub witness_ids_of : List Tx → List Id
witness_ids_of [] = []
witness_ids_of (coinbase ∷ txs) = record { 0 = replicate 32 0 } ∷ map witness_id_of txs

-- three times the bytes without witnesses, and once those with them (`GetTransactionWeight`)
abbrev pub weight_of : Tx → ℕ
weight_of t = 3 * length (transaction.spell t) + length (witness_transaction.spell t)
