-- The medians time past from which relative locks by time count, and whether those that a block asks for are given (BIP 68).
use Rattle.std.specs.Prelude.{ℕ, ◌-◌, ◌==◌, ◌&&◌, Bool, not, nat_le, if◌then◌else◌, List, [], ◌∷◌, ◌++◌, length, Option, None, Some}
use Rattle.std.specs.List.{list_any}
use Rattle.std.specs.FinMap as coin_map
use Rattle.txn.specs.declared.input.TxIn.{TxIn}
use Rattle.txn.specs.Tx.{Tx}
use Rattle.txn.specs.Check.{is_coinbase}
use Rattle.txn.specs.Sequence.{has_relative_locks, is_disabled, is_time}
use Rattle.block.specs.declared.block.Block.{Block}
use Rattle.coins.specs.declared.coin.Coin.{Coin}
use Rattle.coins.specs.Coins.{Coins}
use Rattle.connect.specs.BlockContext.{Setting}

-- by height, genesis first; where only the parent's lacks, it is the cutoff of a block of this height
abbrev pub with_cutoff : List ℕ → ℕ → ℕ → List ℕ
with_cutoff medians height cutoff = if length medians == height - 1 then medians ++ cutoff ∷ [] else medians

-- a coin that a block of this height spends is of this height: where the coins from before don't have it, of the block's own
abbrev pub spent_height : ℕ → Option Coin → ℕ
spent_height height None = height
spent_height height (Some coin) = coin.height

-- the lock of an input counts from a median that isn't given: that of the block below its coin
abbrev pub lacks_start : Setting → Coins → TxIn → Bool
lacks_start s m input =
    not (is_disabled input.sequence) && is_time input.sequence
    && nat_le (length s.medians) (spent_height s.height (coin_map.get m input.prev) - 1)

abbrev pub lacks_tx_start : Setting → Coins → Tx → Bool
lacks_tx_start s m tx = not (is_coinbase tx) && has_relative_locks tx && list_any (lacks_start s m) tx.inputs

-- some lock of a block does, where such locks are in force
abbrev pub lacks_medians : Setting → Coins → Block → Bool
lacks_medians s m block = s.rules.csv && list_any (lacks_tx_start s m) block.txs
