-- The rules that a block obeys over the coins of its branch (Bitcoin Core's `ConnectBlock`, `CheckTxInputs` and
-- `SequenceLocks`).
use Rattle.std.specs.Prelude.{ℕ, ◌+◌, Bool, not, ◌&&◌, nat_lt, ℤ, pos, ◌+ℤ◌, ◌-ℤ◌, int_lt, List, [], ◌∷◌, ◌++◌, length, map, drop, fold, is_some}
use Rattle.std.specs.List.{list_all, list_any, flat_map, range_with_len}
use Rattle.std.specs.FinMap as coin_map
use Rattle.txn.specs.declared.outpoint.OutPoint.{OutPoint}
use Rattle.txn.specs.Tx.{Tx}
use Rattle.txn.specs.declared.reason.Reason.TheVariants.{TooManySigops, NonFinal, OverwritesCoin, InputsMissingOrSpent, PrematureCoinbaseSpend, InputsBelowOutputs, CoinbaseAmount}
use Rattle.txn.specs.Check.{is_coinbase, total}
use Rattle.txn.specs.First.{Rules}
use Rattle.txn.specs.Identity.{id_of}
use Rattle.block.specs.Reward.{subsidy_of}
use Rattle.locks.specs.declared.relative.LockStart.{LockStart}
use Rattle.locks.specs.Relative.{are_met}
use Rattle.coins.specs.declared.coin.Coin.{Coin}
use Rattle.coins.specs.Coins.{Coins, sum_of_values}
use Rattle.undo.specs.Effect.{outpoint_at, spends}
use Rattle.rules.specs.Alone.{max_block_sigops}
use Rattle.connect.specs.BlockContext.{Setting, median_below}
use Rattle.connect.specs.Turns.{Turn, spent_in, plain_count, full_count, turns}

abbrev pub has_coin : Coins → OutPoint → Bool
has_coin m outpoint = is_some (coin_map.get m outpoint)

-- the outpoints of its outputs, whether or not they can be coins
abbrev pub outpoints_of : Tx → List OutPoint
outpoints_of tx = map (outpoint_at (id_of tx)) (range_with_len 0 (length tx.outputs))

-- BIP 30, here at every height: an output is a coin already
unfoldable pub overwrites : Coins → Tx → Bool
overwrites m tx = list_any (has_coin m) (outpoints_of tx)

-- so many blocks above a coinbase its coins may be spent (`COINBASE_MATURITY`)
abbrev pub coinbase_maturity : ℕ
coinbase_maturity = 100

abbrev pub is_immature : ℕ → Coin → Bool
is_immature height coin = coin.coinbase && nat_lt height (coin.height + coinbase_maturity)

-- from where the relative lock of the input counts that spends a coin (BIP 68)
abbrev pub lock_start : List ℕ → Coin → LockStart
lock_start medians coin = record { height = coin.height; median = median_below medians coin.height }

-- what a transaction gives to the coinbase: what it spends without what it pays
abbrev pub fee : Turn → ℤ
fee turn = sum_of_values (spent_in turn) -ℤ total turn.tx.outputs

abbrev pub fees : List Turn → ℤ
fees turns = fold (λ sum turn. sum +ℤ fee turn) (pos 0) turns

-- what the coinbase pays
abbrev pub reward_of : List Tx → ℤ
reward_of [] = pos 0
reward_of (coinbase ∷ txs) = total coinbase.outputs

-- an input isn't a coin
abbrev pub is_missing : Turn → Bool
is_missing turn = not (list_all (has_coin turn.coins) (spends turn.tx))

abbrev pub spends_immature : Setting → Turn → Bool
spends_immature s turn = list_any (is_immature s.height) (spent_in turn)

-- its inputs are worth less than its outputs; a coinbase makes new coins
abbrev pub pays_too_much : Turn → Bool
pays_too_much turn = not (is_coinbase turn.tx) && int_lt (sum_of_values (spent_in turn)) (total turn.tx.outputs)

-- a relative lock isn't met, where such locks are in force
abbrev pub is_locked : Setting → Turn → Bool
is_locked s turn = s.rules.csv && not (are_met turn.tx (map (lock_start s.medians) (spent_in turn)) s.height s.cutoff)

-- what the inputs of a transaction break (`CheckTxInputs`)
abbrev pub input_rules : Setting → Turn → Rules
input_rules s turn =
    (is_missing turn, InputsMissingOrSpent)
    ∷ (spends_immature s turn, PrematureCoinbaseSpend)
    ∷ (pays_too_much turn, InputsBelowOutputs)
    ∷ []

-- of a transaction in its turn
unfoldable pub turn_rules : Setting → Turn → Rules
turn_rules s turn =
    (nat_lt max_block_sigops (plain_count turn), TooManySigops)
    ∷ input_rules s turn
    ++ (is_locked s turn, NonFinal)
    ∷ (nat_lt max_block_sigops (full_count turn), TooManySigops)
    ∷ (overwrites turn.coins turn.tx, OverwritesCoin)
    ∷ []

-- of a block, over the coins of its parent's branch
unfoldable pub connect_rules : Setting → Coins → List Tx → Rules
connect_rules s m txs =
    (list_any (overwrites m) txs, OverwritesCoin)
    ∷ flat_map (turn_rules s) (turns s.height m 0 txs)
    ++ (int_lt (pos (subsidy_of s.height) +ℤ fees (drop 1 (turns s.height m 0 txs))) (reward_of txs), CoinbaseAmount)
    ∷ []
