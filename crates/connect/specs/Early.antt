-- The inputs of a block whose scripts can be run before it is connected: those whose coin is among some coins, or made
-- by an earlier transaction of the block.
use Rattle.std.specs.Prelude.{ℕ, if◌then◌else◌, List, [], ◌∷◌, map, take, Option, Some, None, slice_get}
use Rattle.std.specs.Option.{option_or, option_map, option_and_then, option_to_list}
use Rattle.std.specs.List.{flat_map, enumerate_from}
use Rattle.std.specs.FinMap as coin_map
use Rattle.std.specs.Ordering.{eq_by_cmp}
use Rattle.hash.specs.declared.id.Id.{Id}
use Rattle.hash.specs.Id.{id_cmp}
use Rattle.txn.specs.declared.outpoint.OutPoint.{OutPoint}
use Rattle.txn.specs.declared.input.TxIn.{TxIn}
use Rattle.txn.specs.declared.output.TxOut.{TxOut}
use Rattle.txn.specs.Tx.{Tx}
use Rattle.txn.specs.Check.{is_coinbase}
use Rattle.txn.specs.Identity.{id_of}
use Rattle.script.specs.Kinds.{is_unspendable}
use Rattle.queue.specs.Jobs.{Spending, spending}
use Rattle.coins.specs.Coins.{Coins}

-- the last of these transactions that has this id
abbrev pub with_id : List Tx → Id → Option Tx
with_id [] id = None
with_id (tx ∷ txs) id = option_or (with_id txs id) (if eq_by_cmp id_cmp (id_of tx) id then Some tx else None)

-- the script of an output, if it can be a coin
abbrev pub coin_script : TxOut → Option (List ℕ)
coin_script output = if is_unspendable output.script then None else Some output.script

-- the script of the coin that these transactions make at an outpoint
abbrev pub made_script : List Tx → OutPoint → Option (List ℕ)
made_script txs at = option_and_then (λ tx. option_and_then coin_script (slice_get tx.outputs at.index)) (with_id txs at.id)

-- the script of the coin at an outpoint, among these coins or those that these transactions make
abbrev pub script_at : Coins → List Tx → OutPoint → Option (List ℕ)
script_at m txs at = option_or (option_map (λ c. c.script) (coin_map.get m at)) (made_script txs at)

-- of the input at a place, where its coin is there
abbrev pub early_input : Coins → List Tx → ℕ → ℕ × TxIn → List Spending
early_input m before place i = map (spending place i.0) (option_to_list (script_at m before i.1.prev))

-- of the transaction at a place, after these. A coinbase spends nothing
abbrev pub early_inputs : Coins → List Tx → ℕ → Tx → List Spending
early_inputs m before place tx =
    if is_coinbase tx then [] else flat_map (early_input m before place) (enumerate_from 0 tx.inputs)

-- of a block, by transaction and then by input
abbrev pub early_spendings : Coins → List Tx → List Spending
early_spendings m txs = flat_map (λ t. early_inputs m (take t.0 txs) t.0 t.1) (enumerate_from 0 txs)
