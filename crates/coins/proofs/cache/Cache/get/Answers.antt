use Rattle.std.proofs.Common.{Some, ap, sym, ◌∙◌}
use Rattle.std.specs.FinMap as map
use Rattle.std.specs.Option.{option_copied}
use Rattle.coins.specs.declared.coin.Coin.{Coin}
use Rattle.coins.proofs.Layers.{stands_at}
use Rattle.coins.proofs.Layers.{layer_get}
use Rattle.coins.proofs.cache.Cache.get.Goals as goal

pub returns-in-Some-Dirty : goal.returns-in-Some-Dirty
returns-in-Some-Dirty g c =
    let m = g.B.Base.coins c.self.inside.base.now in
    let q = c.args.at.now in
    c.lend.ensures ∙ c.as_ref.ensures.value ∙ sym (layer_get c.args.self.now m c.self.inside.entries.entries q c.self.view_is
    ∙ ap (λ o. stands_at o (map.get m q)) (sym c.get.ensures.value ∙ ap option_copied c.in-Some-Dirty.is ∙ ap Some c.in-Some-Dirty.field-0-is))

pub returns-in-Some-Fresh : goal.returns-in-Some-Fresh
returns-in-Some-Fresh g c =
    let m = g.B.Base.coins c.self.inside.base.now in
    let q = c.args.at.now in
    ap (λ (x : Coin). Some x) c.lend-in-Some-Fresh.ensures ∙ sym (layer_get c.args.self.now m c.self.inside.entries.entries q c.self.view_is
    ∙ ap (λ o. stands_at o (map.get m q)) (sym c.get.ensures.value ∙ ap option_copied c.in-Some-Fresh.is ∙ ap Some c.in-Some-Fresh.field-0-is))

pub returns-in-Some-Clean : goal.returns-in-Some-Clean
returns-in-Some-Clean g c =
    let m = g.B.Base.coins c.self.inside.base.now in
    let q = c.args.at.now in
    c.get-in-Some-Clean.ensures ∙ sym (layer_get c.args.self.now m c.self.inside.entries.entries q c.self.view_is
    ∙ ap (λ o. stands_at o (map.get m q)) (sym c.get.ensures.value ∙ ap option_copied c.in-Some-Clean.is ∙ ap Some c.in-Some-Clean.field-0-is))

pub returns-in-None : goal.returns-in-None
returns-in-None g c =
    let m = g.B.Base.coins c.self.inside.base.now in
    let q = c.args.at.now in
    c.get-in-None.ensures ∙ sym (layer_get c.args.self.now m c.self.inside.entries.entries q c.self.view_is
    ∙ ap (λ o. stands_at o (map.get m q)) (sym c.get.ensures.value ∙ ap option_copied c.in-None.is))
