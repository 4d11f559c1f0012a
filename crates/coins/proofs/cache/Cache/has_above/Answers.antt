use Rattle.std.proofs.Common.{◌≡◌, None, ap, sym, ◌∙◌}
use Rattle.std.specs.FinMap as map
use Rattle.std.specs.Prelude.{is_some}
use Rattle.coins.specs.Coins.{Layer}
use Rattle.coins.specs.Entries.{entry_at, own_coin}
use Rattle.coins.specs.inside.Entries.{stands_at}
use Rattle.coins.proofs.Layers.{layer_get, own_stands}
use Rattle.coins.proofs.cache.Cache.has_above.Goals as goal

pub returns : goal.returns
returns g c =
    let m = g.B.Base.coins c.self.inside.base.now in
    let es = c.self.inside.entries.entries in
    let q = c.args.at.now in
    let none : map.get m q ≡ None = ap (λ (l : Layer). map.get l.base q) c.self.view_is ∙ c.requires in
    c.holds_coin.ensures
    ∙ ap (λ o. is_some (own_coin o)) c.get.ensures.value
    ∙ sym (ap (λ o. is_some o) (layer_get c.args.self.now m es q c.self.view_is ∙ ap (stands_at (entry_at es q)) none ∙ own_stands (entry_at es q)))
