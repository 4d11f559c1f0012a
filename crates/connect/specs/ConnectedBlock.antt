-- A block that was connected.
use Rattle.std.specs.Prelude.{◌≡◌, List, None}
use Rattle.txn.specs.First.{first_broken}
use Rattle.block.specs.declared.block.Block.{Block}
use Rattle.coins.specs.declared.coin.Coin.{Coin}
use Rattle.coins.specs.Coins.{Coins}
use Rattle.rules.specs.Alone.{alone_rules}
use Rattle.connect.specs.BlockContext.{Setting}
use Rattle.connect.specs.Turns.{effect, undo_of}
use Rattle.connect.specs.Faults.{connect_rules}

-- connecting the block to the coins m left the coins n and this undo
pub record IsConnected (s : Setting) (m : Coins) (block : Block) (n : Coins) (taken : List (List Coin)) : Type 0 where
  pub alone : first_broken (alone_rules block) ≡ None
  pub over_coins : first_broken (connect_rules s m block.txs) ≡ None
  pub after : n ≡ effect s.height m block.txs
  pub spent : taken ≡ undo_of s.height m block.txs
