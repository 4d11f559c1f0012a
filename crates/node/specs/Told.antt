-- What a seat is told of a state.
use Rattle.std.specs.Prelude.{◌≡◌, ◌⊎◌, ℕ, zero, suc, List, [], ◌∷◌, map, Option, None, Some, option_map}
use Rattle.hash.specs.declared.id.Id.{Id}
use Rattle.txn.specs.declared.outpoint.OutPoint.{OutPoint}
use Rattle.signatures.specs.Triple.{Triples}
use Rattle.coins.specs.Coins.{Coins}
use Rattle.coins.specs.declared.coin.Coin.{Coin}
use Rattle.coins.specs.Next.{IsNext}
use Rattle.tree.specs.declared.tip.Tip.{Tip}
use Rattle.tree.specs.Tips.{tip_of_id}
use Rattle.model.specs.Commands.{outcome}
use Rattle.model.specs.Regtest.{ledger, regtest}
use Rattle.model.specs.declared.command.Command.{Command}
use Rattle.model.specs.declared.reply.Reply.{Reply}
use Rattle.model.specs.Replay.{coins}
use Rattle.activate.specs.Lookups.{spent_by}
use Rattle.view.specs.Origin.{Origin, machine}
use Rattle.node.specs.declared.answer.UnspentOutput.{UnspentOutput}

-- a coin and how many blocks confirm it, as a seat reads them
abbrev pub unspent_output : Coin × ℕ → UnspentOutput
unspent_output (coin, confirmations) = record {
  value = coin.value;
  script = coin.script;
  height = coin.height;
  coinbase = coin.coinbase;
  confirmations = confirmations;
}

-- the output at an outpoint, as a seat reads it, where it isn't spent
abbrev pub output_at : (o : Origin) → OutPoint → (valid : Triples) → (machine o valid).State → Option UnspentOutput
output_at o at valid s = option_map unspent_output ((machine o valid).coin s at)

-- the tips, as a seat reads them
abbrev pub shown_tips : (o : Origin) → (valid : Triples) → (machine o valid).State → List Tip
shown_tips o valid s = map tip_of_id ((machine o valid).tips s)

-- all coins of a state
abbrev pub coins_in : (o : Origin) → (valid : Triples) → (machine o valid).State → Coins
coins_in o valid s = coins (regtest o.params valid) ledger s

-- the id of the best block
abbrev pub best_in : (o : Origin) → (valid : Triples) → (machine o valid).State → Id
best_in o valid s = (machine o valid).best s

-- the coins that an active block spent, by transactions from the second on (Bitcoin Core's undo data)
abbrev pub undo_in : (o : Origin) → Id → (valid : Triples) → (machine o valid).State → Option (List (List Coin))
undo_in o id valid s = spent_by (regtest o.params valid) s id

-- the reply that a command would get
abbrev pub reply_to : (o : Origin) → Command → (valid : Triples) → (machine o valid).State → Reply
reply_to o c valid s = (outcome (regtest o.params valid) s c).1

-- the coins above an outpoint by rising outpoints, so many of them: fewer only where there are no more
abbrev pub AreNext : Coins → Option OutPoint → ℕ → List (OutPoint × Coin) → Type 0
AreNext m above most [] = (most ≡ 0) ⊎ IsNext m above None
AreNext m above zero (e ∷ others) = ⊥
AreNext m above (suc most) (e ∷ others) = IsNext m above (Some e) × AreNext m (Some e.0) most others
