use Rattle.std.proofs.Common.{sym, ap, ◌∙◌, Some, Option}
use Rattle.std.specs.FinMap as map
use Rattle.coins.specs.Coins.{Coins, few_and_many}
use Rattle.std.proofs.lemmas.Result.{IfOk-weaker}
use Rattle.coins.specs.laws.Lookups.{get-entries}
use Rattle.coins.proofs.Layers.{on_ok}
use Rattle.coins.proofs.Rooms.{changed_put}
use Rattle.coins.proofs.coin_map.CoinMap.exchange.Goals as goal

pub returns-in-None-clause-ok : goal.returns-in-None-clause-ok
returns-in-None-clause-ok c =
    let es = c.spread.new.few.entries in
    let fs = c.put.new.entries.entries in
    let k = c.args.at in
    let v = c.args.coin in
    on_ok c.put.result c.put.ensures.ok (λ h.
    ap (few_and_many fs) c.in-None.is
    ∙ changed_put es fs k (Some v) h
    ∙ ap (λ (m : Coins). map.insert m k v) (ap (few_and_many es) (sym c.in-None.is) ∙ c.in_ok-spread.ensures.coins ∙ c.self.view_is))

pub returns-in-None-clause-old : goal.returns-in-None-clause-old
returns-in-None-clause-old c =
    let es = c.spread.new.few.entries in
    let k = c.args.at in
    IfOk-weaker c.put.result _ _ (λ old h.
    h ∙ sym (get-entries es k)
    ∙ ap (λ (o : Option Coins). map.get (few_and_many es o) k) (sym c.in-None.is)
    ∙ ap (λ (m : Coins). map.get m k) (c.in_ok-spread.ensures.coins ∙ c.self.view_is)) c.put.ensures.old

pub returns-in-Some-clause-old : goal.returns-in-Some-clause-old
returns-in-Some-clause-old c =
    let es = c.spread.new.few.entries in
    let k = c.args.at in
    IfOk-weaker c.exchange_among.result _ _ (λ old h.
    h ∙ ap (λ (o : Option Coins). map.get (few_and_many es o) k) (sym c.in-Some.is)
    ∙ ap (λ (m : Coins). map.get m k) (c.in_ok-spread.ensures.coins ∙ c.self.view_is)) c.exchange_among.ensures.old
