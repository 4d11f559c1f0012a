-- What the functions that apply and revert take and give.
use Rattle.std.specs.Prelude.{◌≡◌, ◌^◌, ◌≤◌, List, length, None, IsSome}
use Rattle.std.specs.List.{AllByRecursion, IsDistinct, zip}
use Rattle.std.specs.Map.{keys_of}
use Rattle.std.specs.FinMap as coin_map
use Rattle.hash.specs.declared.id.Id.{Id}
use Rattle.txn.specs.declared.outpoint.OutPoint.{OutPoint}
use Rattle.txn.specs.Tx.{Tx}
use Rattle.coins.specs.declared.coin.Coin.{Coin}
use Rattle.coins.specs.Coins.{Coins, same}
use Rattle.undo.specs.Effect.{spendable, spends, with_coins, without}

-- these are coins, each once
pub record AreCoins (m : Coins) (outpoints : List OutPoint) : Type 0 where
  pub coins : AllByRecursion (λ outpoint. IsSome (coin_map.get m outpoint)) outpoints
  pub once : IsDistinct same outpoints

-- these are no coins, each once
pub record AreNew (m : Coins) (made : List (OutPoint × Coin)) : Type 0 where
  pub new : AllByRecursion (λ c. coin_map.get m c.0 ≡ None) made
  pub once : IsDistinct same (keys_of made)

-- the coins before a transaction that spent these
unfoldable pub coins_before : Coins → Tx → Id → List Coin → Coins
coins_before n tx id taken = with_coins (without n (keys_of (spendable id 0 tx.outputs))) (zip (spends tx) taken)

-- a transaction that spent these can be taken back
pub record IsRevertible (n : Coins) (tx : Tx) (id : Id) (taken : List Coin) : Type 0 where
  pub outputs : AreCoins n (keys_of (spendable id 0 tx.outputs))
  pub inputs : AreNew (without n (keys_of (spendable id 0 tx.outputs))) (zip (spends tx) taken)
  pub alike : length taken ≡ length (spends tx)
  pub numbered : length tx.outputs ≤ 2 ^ 32
