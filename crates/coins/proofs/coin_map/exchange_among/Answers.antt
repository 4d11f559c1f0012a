use Rattle.std.proofs.Common.{sym, ap, ◌∙◌}
use Rattle.coins.specs.laws.Lookups.{entry_for}
use Rattle.coins.proofs.MovedCoins.{first, got, put_many}
use Rattle.coins.proofs.coin_map.exchange_among.Goals as goal

pub returns-in-Some-clause-ok : goal.returns-in-Some-clause-ok
returns-in-Some-clause-ok c = put_many _ _ _ _ c.args.at c.args.coin c.take_out-left.ensures.changed c.in_ok-there.ensures.ok

pub returns-in-None-clause-ok : goal.returns-in-None-clause-ok
returns-in-None-clause-ok c = put_many _ _ _ _ c.args.at c.args.coin c.take_out-left.ensures.changed c.in_ok-there.ensures.ok

pub returns-in-Some-clause-old : goal.returns-in-Some-clause-old
returns-in-Some-clause-old c =
    let es = c.args.few.now.entries in
    let m = c.args.shards.now in
    let k = c.args.at in
    sym (got es m k ∙ ap (λ o. first o (entry_for es k)) (sym c.in_ok-there.ensures.old ∙ c.in-Some.is))

pub returns-in-None-clause-old : goal.returns-in-None-clause-old
returns-in-None-clause-old c =
    let es = c.args.few.now.entries in
    let m = c.args.shards.now in
    let k = c.args.at in
    c.take_out-left.ensures.old ∙ sym (got es m k ∙ ap (λ o. first o (entry_for es k)) (sym c.in_ok-there.ensures.old ∙ c.in-None.is))
