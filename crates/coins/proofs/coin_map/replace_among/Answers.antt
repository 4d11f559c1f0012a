use Rattle.std.proofs.Common.{◌≡◌, None, sym, ap, ◌∙◌}
use Rattle.std.specs.Prelude.{is_some}
use Rattle.std.specs.FinMap as map
use Rattle.coins.specs.laws.Lookups.{entry_for}
use Rattle.coins.proofs.MovedCoins.{first, got, over_few, over_many}
use Rattle.coins.proofs.Rooms.{given_ok, none_from}
use Rattle.coins.proofs.coin_map.replace_among.Goals as goal

pub replace-requires : goal.replace-requires
replace-requires c =
    let es = c.args.few.now.entries in
    let m = c.args.shards.now in
    let k = c.args.at in
    let none : map.get m k ≡ None = none_from (map.get m k) (sym c.has.ensures ∙ c.if-has.false) in
    ap (λ o. is_some o) (sym (got es m k ∙ ap (λ o. first o (entry_for es k)) none)) ∙ c.requires

pub returns-then-has : goal.returns-then-has
returns-then-has c =
    let ok = given_ok c.insert.result (c.insert.ensures.present (sym c.has.ensures ∙ c.if-has.true)) c.insert.ensures.ok in
    over_many c.args.few.now.entries c.args.shards.now c.insert.new.self c.args.at c.args.coin ok

pub returns-else-has : goal.returns-else-has
returns-else-has c =
    let m = c.args.shards.now in
    let k = c.args.at in
    over_few c.args.few.now.entries _ m k c.args.coin c.replace.ensures (none_from (map.get m k) (sym c.has.ensures ∙ c.if-has.false))
