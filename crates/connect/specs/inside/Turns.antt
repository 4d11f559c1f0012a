-- What the functions that test a transaction take and give.
use Rattle.std.specs.Prelude.{◌≡◌, ℕ, ℤ, ◌≤◌, ◌≤ℤ◌, ◌^◌, neg_ℤ, pos, List, length, map, Option, None, Some}
use Rattle.std.specs.List.{IsDistinct, flat_map}
use Rattle.txn.specs.Tx.{Tx}
use Rattle.txn.specs.declared.reason.Reason.{Reason}
use Rattle.txn.specs.First.{first_broken}
use Rattle.coins.specs.declared.coin.Coin.{Coin}
use Rattle.coins.specs.Coins.{Coins, Layer, same}
use Rattle.undo.specs.Effect.{spends}
use Rattle.rules.specs.Alone.{max_block_sigops}
use Rattle.connect.specs.BlockContext.{Setting}
use Rattle.connect.specs.Turns.{Turn, spent_in, turn, turns, left_by, full_count, effect, undo_of}
use Rattle.connect.specs.Faults.{turn_rules, connect_rules}
use Rattle.connect.specs.Faults as faults
use Rattle.connect.specs.laws.Broken.{UpToCoins}
use Rattle.connect.specs.declared.block_fault.BlockFault.{BlockFault}
use Rattle.connect.specs.declared.block_fault.BlockFault.TheVariants.{Broken, Memory}

-- where a rule is broken, it is the first one
abbrev pub IsReason : Option Reason → BlockFault → Type 0
IsReason first (Broken reason) = first ≡ Some reason
IsReason first Memory = Unit {0}

-- what a block without a fault by itself says of each of its transactions
pub record IsLawful (tx : Tx) : Type 0 where
  pub inputs : length tx.inputs ≤ 1000000
  pub outputs : length tx.outputs ≤ 1000000
  pub once : IsDistinct same (spends tx)

-- over the coins m and after n signature operations, a transaction finds these coins
pub record HasFound (s : Setting) (tx : Tx) (m : Coins) (n : ℕ) (coins : List Coin) : Type 0 where
  pub few : n ≤ max_block_sigops
  pub lent : coins ≡ spent_in (turn tx m n)
  pub up_to_coins : UpToCoins s (turn tx m n)

-- a transaction breaks no rule in its turn, and leaves this layer, these coins that it spent, this fee and this count
pub record Passes (s : Setting) (before : Layer) (t : Turn) (left : Layer) (lent : List Coin) (given : ℤ) (so_far : ℕ) : Type 0 where
  pub none : first_broken (turn_rules s t) ≡ None
  pub layer : left ≡ record before { coins = left_by s.height t }
  pub spent : lent ≡ spent_in t
  pub fee : given ≡ faults.fee t
  pub low : neg_ℤ (pos (2 ^ 84)) ≤ℤ given
  pub high : given ≤ℤ pos (2 ^ 84)
  pub counted : so_far ≡ full_count t
  pub few : so_far ≤ max_block_sigops

-- the same of transactions one after the other, behind so many signature operations: the coins that each spent, and the
-- sum of their fees
pub record PassInTurn (s : Setting) (before : Layer) (txs : List Tx) (n : ℕ) (left : Layer) (lent : List (List Coin)) (given : ℤ) : Type 0 where
  pub none : first_broken (flat_map (turn_rules s) (turns s.height before.coins n txs)) ≡ None
  pub layer : left ≡ record before { coins = effect s.height before.coins txs }
  pub undo : lent ≡ map spent_in (turns s.height before.coins n txs)
  pub fees : given ≡ faults.fees (turns s.height before.coins n txs)
  pub low : neg_ℤ (pos (2 ^ 104)) ≤ℤ given
  pub high : given ≤ℤ pos (2 ^ 104)

-- all transactions of a block break no rule, neither in turn nor together, and leave this layer and what each spent
pub record PassTogether (s : Setting) (before : Layer) (txs : List Tx) (left : Layer) (lent : List (List Coin)) : Type 0 where
  pub none : first_broken (connect_rules s before.coins txs) ≡ None
  pub layer : left ≡ record before { coins = effect s.height before.coins txs }
  pub undo : lent ≡ undo_of s.height before.coins txs
