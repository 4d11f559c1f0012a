use Rattle.std.proofs.Common.{sym, ap, ◌∙◌, Option}
use Rattle.std.specs.FinMap as map
use Rattle.coins.specs.Coins.{Coins, few_and_many}
use Rattle.coins.specs.laws.Lookups.{get-entries}
use Rattle.coins.proofs.coin_map.CoinMap.get.Goals as goal

pub returns-in-None : goal.returns-in-None
returns-in-None c =
    let es = c.self.inside.few.entries in
    let q = c.args.at.now in
    c.get.ensures.value ∙ sym (get-entries es q)
    ∙ ap (λ (o : Option Coins). map.get (few_and_many es o) q) (sym c.in-None.is)
    ∙ ap (λ (m : Coins). map.get m q) c.self.view_is
