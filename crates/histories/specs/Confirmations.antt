-- A coin, the block that made it, and another branch with that block.
use Rattle.std.specs.Prelude.{◌≡◌, ◌<◌, ◌≤◌, ◌+◌, ℕ, suc, Bool, true, false, List, length, Some}
use Rattle.std.specs.List.{list_any}
use Rattle.std.specs.FinMap as coin_map
use Rattle.hash.specs.declared.id.Id.{Id}
use Rattle.txn.specs.declared.outpoint.OutPoint.{OutPoint}
use Rattle.txn.specs.Tx.{Tx}
use Rattle.block.specs.declared.block.Block.{Block}
use Rattle.coins.specs.declared.coin.Coin.{Coin}
use Rattle.coins.specs.Coins.{same}
use Rattle.undo.specs.Effect.{spends}
use Rattle.tree.specs.Branches.{Blocks, block_at, height, on}
use Rattle.tree.specs.Names.{names}
use Rattle.tree.specs.State.{State}
use Rattle.model.specs.Regtest.{ledger}
use Rattle.model.specs.Replay.{coins_at}
use Rattle.model.specs.Rules.{Rules}
use Rattle.model.specs.Settle.{active}

-- whether a transaction of a block spends an output
abbrev pub is_spent_in : List Tx → OutPoint → Bool
is_spent_in txs outpoint = list_any (λ tx. list_any (same outpoint) (spends tx)) txs

-- the branch of a block has this coin, and the block at the place `made` of it is the one of the coin's height
pub record IsCoinOf (r : Rules Block Id) (t : Blocks Block) (p made : ℕ) (outpoint : OutPoint) (coin : Coin) : Type 0 where
  pub kept : p ≤ length t
  pub below : on t p made ≡ true
  pub made_at : coin.height ≡ height t made
  pub there : coin_map.get (coins_at r ledger t p) outpoint ≡ Some coin

-- the block n - 1 below the best one, on the active branch: n blocks of it are no lower
abbrev pub IsBelowBest : Rules Block Id → State Block → ℕ → ℕ → Type 0
IsBelowBest r s n made = let t = s.blocks in (on t (active r s) made ≡ true) × (height t made + n ≡ suc (height t (active r s)))

-- no block of the branch that is higher than the one at `made` spends the output
abbrev pub IsUnspentAbove : Blocks Block → ℕ → ℕ → OutPoint → Type 0
IsUnspentAbove t p made outpoint = (y : ℕ) → on t p y ≡ true → height t made < height t y
    → is_spent_in (block_at names t y).txs outpoint ≡ false
