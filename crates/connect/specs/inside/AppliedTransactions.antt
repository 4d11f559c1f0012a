-- Transactions that were applied one after the other.
use Rattle.std.specs.Prelude.{◌≡◌, ℕ, true, List, ◌∷◌, map}
use Rattle.std.specs.List.{AllByRecursion}
use Rattle.txn.specs.Tx.{Tx}
use Rattle.txn.specs.Check.{is_coinbase}
use Rattle.txn.specs.Identity.{id_of}
use Rattle.coins.specs.declared.coin.Coin.{Coin}
use Rattle.coins.specs.Coins.{Coins}
use Rattle.undo.specs.Effect.{after, IsApplicable}
use Rattle.connect.specs.Turns.{spent_in, turns, effect}

-- transactions that can be applied one after the other to the coins m leave the coins n, and each spent these
pub record AreApplied (height : ℕ) (m : Coins) (txs : List Tx) (n : Coins) (taken : List (List Coin)) : Type 0 where
  pub counted : ℕ
  pub each : AllByRecursion (λ turn. IsApplicable turn.coins turn.tx (id_of turn.tx)) (turns height m counted txs)
  pub after : n ≡ effect height m txs
  pub spent : taken ≡ map spent_in (turns height m counted txs)

-- the same of a block, whose first transaction is a coinbase
pub record IsBlockApplied (height : ℕ) (m : Coins) (txs : List Tx) (n : Coins) (taken : List (List Coin)) : Type 0 where
  pub coinbase : Tx
  pub others : List Tx
  pub parts : txs ≡ coinbase ∷ others
  pub first : is_coinbase coinbase ≡ true
  pub applicable : IsApplicable m coinbase (id_of coinbase)
  pub applied : AreApplied height (after m coinbase (id_of coinbase) height) others n taken
