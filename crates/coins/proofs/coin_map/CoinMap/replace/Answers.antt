use Rattle.std.proofs.Common.{sym, ap, ◌∙◌, Some, Option}
use Rattle.std.specs.FinMap as map
use Rattle.coins.specs.Coins.{Coins, few_and_many}
use Rattle.std.specs.Prelude.{is_some}
use Rattle.coins.specs.laws.Lookups.{get-entries}
use Rattle.coins.proofs.Rooms.{changed_put}
use Rattle.coins.proofs.coin_map.CoinMap.replace.Goals as goal

pub replace-requires : goal.replace-requires
replace-requires c =
    let es = c.self.inside.few.entries in
    let k = c.args.at in
    ap (λ o. is_some o) (
    sym (get-entries es k)
    ∙ ap (λ (o : Option Coins). map.get (few_and_many es o) k) (sym c.in-None.is)
    ∙ ap (λ (m : Coins). map.get m k) c.self.view_is)
    ∙ c.requires

pub returns-in-None : goal.returns-in-None
returns-in-None c =
    let es = c.self.inside.few.entries in
    let fs = c.replace.new.entries.entries in
    let k = c.args.at in
    ap (few_and_many fs) c.in-None.is
    ∙ changed_put es fs k (Some c.args.coin) c.replace.ensures
    ∙ ap (λ (m : Coins). map.insert m k c.args.coin) (ap (few_and_many es) (sym c.in-None.is) ∙ c.self.view_is)
