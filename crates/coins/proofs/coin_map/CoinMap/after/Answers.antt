use Rattle.std.proofs.Common.{ap, sym, subst, ◌∙◌, Option}
use Rattle.std.specs.Option.{option_copied, option_map}
use Rattle.std.specs.Map.Iter.{deref_pair}
use Rattle.coins.specs.Coins.{Coins, few_and_many}
use Rattle.coins.specs.Next.{IsNext}
use Rattle.coins.proofs.NextCoins.{one_follows}
use Rattle.coins.proofs.coin_map.CoinMap.after.Goals as goal

pub returns-in-None : goal.returns-in-None
returns-in-None c =
    let es = c.self.inside.few.entries in
    let from = option_copied c.args.at in
    let r = option_map deref_pair c.entry_after.result in
    subst (λ (m : Coins). IsNext m from r) (ap (λ (o : Option Coins). few_and_many es o) (sym c.in-None.is) ∙ c.self.view_is) (one_follows es from r c.entry_after.ensures)
