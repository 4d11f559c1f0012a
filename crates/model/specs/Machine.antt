-- A chainstate, as its users meet it: what it is at first, what a command does to it, and what is read
-- from it.
use Rattle.std.specs.Prelude.{ℕ, List, Option}
use Rattle.hash.specs.declared.id.Id.{Id}
use Rattle.txn.specs.declared.outpoint.OutPoint.{OutPoint}
use Rattle.coins.specs.declared.coin.Coin.{Coin}
use Rattle.tree.specs.Tips.{TipOf}
use Rattle.model.specs.declared.command.Command.{Command}
use Rattle.model.specs.declared.reply.Reply.{Reply}

pub record Machine : Type 1 where
  pub State : Type 0
  pub opening : State
  -- the state after a command and the reply, where the command takes a step
  pub step : State → Command → Option (State × Reply)
  -- the coin at an outpoint, and how many blocks confirm it (`gettxout`)
  pub coin : State → OutPoint → Option (Coin × ℕ)
  -- the id of the best block (`getbestblockhash`)
  pub best : State → Id
  -- the tips of the tree (`getchaintips`)
  pub tips : State → List (TipOf Id)
