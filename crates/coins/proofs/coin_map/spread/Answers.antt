use Rattle.std.proofs.Common.{sym, ap, ◌∙◌, Option}
use Rattle.coins.specs.Coins.{Coins, few_and_many}
use Rattle.coins.proofs.MovedCoins.{opened}
use Rattle.coins.proofs.coin_map.spread.Goals as goal

pub returns-in_ok-new-in-None-clause-coins : goal.returns-in_ok-new-in-None-clause-coins
returns-in_ok-new-in-None-clause-coins c =
    let es = c.args.few.now.entries in
    opened es c.in_ok-new-in-None.field-0 c.in_ok-new-in-None.ensures ∙ ap (λ (o : Option Coins). few_and_many es o) (sym c.in-None.is)
