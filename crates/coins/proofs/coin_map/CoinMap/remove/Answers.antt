use Rattle.std.proofs.Common.{sym, ap, ◌∙◌, None}
use Rattle.std.specs.FinMap as map
use Rattle.coins.specs.Coins.{Coins, few_and_many}
use Rattle.coins.proofs.Rooms.{changed_put}
use Rattle.coins.proofs.coin_map.CoinMap.remove.Goals as goal

pub returns-in-None : goal.returns-in-None
returns-in-None c =
    let es = c.self.inside.few.entries in
    let fs = c.erase.new.entries.entries in
    let k = c.args.at.now in
    ap (few_and_many fs) c.in-None.is
    ∙ changed_put es fs k None c.erase.ensures
    ∙ ap (λ (m : Coins). map.remove m k) (ap (few_and_many es) (sym c.in-None.is) ∙ c.self.view_is)
