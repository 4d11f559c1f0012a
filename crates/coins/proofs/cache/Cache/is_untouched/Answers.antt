use Rattle.std.proofs.Common.{rules, ◌≡◌, length, ap, sym, ◌∙◌}
use Rattle.coins.specs.Coins.{Layer}
use Rattle.coins.proofs.Layers.{over_none}
use Rattle.coins.proofs.cache.Cache.is_untouched.Goals as goal

pub returns : goal.returns
returns g c = λ yes.
    let empty : length c.self.inside.entries.entries ≡ 0 = search rules in
    sym (ap (λ (l : Layer). l.coins) c.self.view_is) ∙ over_none (g.B.Base.coins c.self.inside.base.now) c.self.inside.entries.entries empty ∙ ap (λ (l : Layer). l.base) c.self.view_is
