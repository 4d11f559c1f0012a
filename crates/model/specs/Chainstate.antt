-- Regtest's chainstate, as its users meet it.
use Rattle.std.specs.Prelude.{ℕ, suc, ◌-◌, Option, option_map}
use Rattle.std.specs.FinMap as coin_map
use Rattle.hash.specs.declared.id.Id.{Id}
use Rattle.txn.specs.declared.outpoint.OutPoint.{OutPoint}
use Rattle.block.specs.declared.block.Block.{Block}
use Rattle.signatures.specs.Triple.{Triples}
use Rattle.coins.specs.declared.coin.Coin.{Coin}
use Rattle.rules.specs.declared.params.Params.{Params}
use Rattle.tree.specs.Branches.{height}
use Rattle.tree.specs.State.{State, opening}
use Rattle.model.specs.Rules.{Rules}
use Rattle.model.specs.Settle.{active, best, tips}
use Rattle.model.specs.Replay.{coins}
use Rattle.model.specs.Regtest.{ledger, regtest}
use Rattle.model.specs.Commands.{command_step}
use Rattle.model.specs.Machine.{Machine}

module _ (r : Rules Block Id) where
  -- how many blocks the active branch has from this height on
  abbrev pub confirmations : State Block → ℕ → ℕ
  confirmations s from = suc (height s.blocks (active r s)) - from

  -- the coin of the active branch, and how many blocks confirm it
  abbrev pub coin_read : State Block → OutPoint → Option (Coin × ℕ)
  coin_read s outpoint = option_map (λ coin. (coin, confirmations s coin.height)) (coin_map.get (coins r ledger s) outpoint)

-- under these heights of soft forks, with these valid signatures
abbrev pub chainstate : Params → Triples → Machine
chainstate params triples = let r = regtest params triples in record {
  State = State Block;
  opening = opening;
  step = command_step r;
  coin = coin_read r;
  best = best r;
  tips = tips r;
}
