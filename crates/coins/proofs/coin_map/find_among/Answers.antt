use Rattle.std.proofs.Common.{sym, ap, ◌∙◌}
use Rattle.std.specs.Option.{option_copied}
use Rattle.coins.specs.laws.Lookups.{entry_for}
use Rattle.coins.proofs.MovedCoins.{first, got}
use Rattle.coins.proofs.coin_map.find_among.Goals as goal

pub returns-in-None : goal.returns-in-None
returns-in-None c =
    let es = c.args.few.now.entries in
    let m = c.args.shards.now in
    let q = c.args.at.now in
    c.get-in-None.ensures.value ∙ sym (got es m q ∙ ap (λ o. first o (entry_for es q)) (sym c.get.ensures ∙ ap option_copied c.in-None.is))

pub returns-in-Some : goal.returns-in-Some
returns-in-Some c =
    let es = c.args.few.now.entries in
    let m = c.args.shards.now in
    let q = c.args.at.now in
    sym (got es m q ∙ ap (λ o. first o (entry_for es q)) (sym c.in-Some.ensures))
