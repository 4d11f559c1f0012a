-- What a transaction does to the coins.
use Rattle.std.specs.Prelude.{◌≡◌, ℕ, ◌+◌, ◌^◌, ◌<◌, ◌≤◌, Bool, if◌then◌else◌, List, [], ◌∷◌, ◌++◌, length, map, fold, None, IsSome}
use Rattle.std.specs.Option.{option_to_list}
use Rattle.std.specs.List.{AllByRecursion, IsDistinct}
use Rattle.std.specs.FinMap as coin_map
use Rattle.hash.specs.declared.id.Id.{Id}
use Rattle.txn.specs.declared.outpoint.OutPoint.{OutPoint}
use Rattle.txn.specs.declared.output.TxOut.{TxOut}
use Rattle.txn.specs.Tx.{Tx}
use Rattle.txn.specs.Check.{is_coinbase, prevs}
use Rattle.script.specs.Kinds.{is_unspendable}
use Rattle.coins.specs.declared.coin.Coin.{Coin}
use Rattle.coins.specs.Coins.{Coins, same}

-- the outpoints that a transaction spends: its inputs' ones, and none of a coinbase
abbrev pub spends : Tx → List OutPoint
spends tx = if is_coinbase tx then [] else prevs tx.inputs

-- the outpoint of the output at a place
abbrev pub outpoint_at : Id → ℕ → OutPoint
outpoint_at id index = record { id = id; index = index }

-- the outputs from a place on that can be coins, by their outpoints
abbrev pub spendable : Id → ℕ → List TxOut → List (OutPoint × TxOut)
spendable id index [] = []
spendable id index (output ∷ outputs) =
    (if is_unspendable output.script then [] else (outpoint_at id index, output) ∷ []) ++ spendable id (index + 1) outputs

-- the coin that an output makes
abbrev pub coin_of : ℕ → Bool → TxOut → Coin
coin_of height coinbase output = record { value = output.value; script = output.script; height = height; coinbase = coinbase }

-- the coins that a transaction makes, by their outpoints
abbrev pub makes : Tx → Id → ℕ → List (OutPoint × Coin)
makes tx id height = map (λ o. (o.0, coin_of height (is_coinbase tx) o.1)) (spendable id 0 tx.outputs)

-- coins without those at these outpoints
abbrev pub without : Coins → List OutPoint → Coins
without m outpoints = fold coin_map.remove m outpoints

-- coins with these at their outpoints
abbrev pub with_coins : Coins → List (OutPoint × Coin) → Coins
with_coins m made = fold (λ n c. coin_map.insert n c.0 c.1) m made

-- the coins after a transaction of this id in a block of this height
unfoldable pub after : Coins → Tx → Id → ℕ → Coins
after m tx id height = with_coins (without m (spends tx)) (makes tx id height)

-- the coins at outpoints, in order
abbrev pub coins_at : Coins → List OutPoint → List Coin
coins_at m [] = []
coins_at m (outpoint ∷ outpoints) = option_to_list (coin_map.get m outpoint) ++ coins_at m outpoints

-- the coins that a transaction spends, in the order of its inputs
unfoldable pub spent_coins : Coins → Tx → List Coin
spent_coins m tx = coins_at m (spends tx)

-- a transaction can be applied: what it spends are coins, each once, and no output is a coin
pub record IsApplicable (m : Coins) (tx : Tx) (id : Id) : Type 0 where
  pub coins : AllByRecursion (λ outpoint. IsSome (coin_map.get m outpoint)) (spends tx)
  pub once : IsDistinct same (spends tx)
  pub new : (index : ℕ) → index < length tx.outputs → coin_map.get m (outpoint_at id index) ≡ None
  -- an output's place is a number of 32 bits
  pub numbered : length tx.outputs ≤ 2 ^ 32

-- applying it to the coins m leaves the coins n, and these were spent
pub record IsApplied (m : Coins) (tx : Tx) (id : Id) (height : ℕ) (n : Coins) (taken : List Coin) : Type 0 where
  pub applicable : IsApplicable m tx id
  pub after : n ≡ after m tx id height
  pub spent : taken ≡ spent_coins m tx
