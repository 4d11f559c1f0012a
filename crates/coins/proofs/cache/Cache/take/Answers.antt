use Rattle.std.proofs.Common.{None, sym, ◌∙◌}
use Rattle.std.specs.FinMap as map
use Rattle.coins.specs.Entries.{entry_at}
use Rattle.coins.specs.inside.Entries.{entry_without_coin}
use Rattle.coins.proofs.Layers.{layer_get, layer_write, layer_same, sound_after, emptied_mark, emptied_stands, on_ok, on_err, if_ok}
use Rattle.coins.proofs.cache.Cache.take.Goals as goal

pub invariant_of-self : goal.invariant_of-self
invariant_of-self g c =
    let m = g.B.Base.coins c.self.inside.base.now in
    let es = c.self.inside.entries.entries in
    let k = c.args.at.now in
    sound_after c.take.result m es c.take.new.entries.entries k (entry_without_coin (entry_at es k) (map.get m k)) c.take.ensures.taken c.take.ensures.err
    (emptied_mark (entry_at es k) (map.get m k) (c.self.invariant.marks k)) c.self.invariant

pub returns-clause-coin : goal.returns-clause-coin
returns-clause-coin g c =
    let m = g.B.Base.coins c.self.inside.base.now in
    let es = c.self.inside.entries.entries in
    if_ok c.take.result c.take.ensures.coin (λ coin is. is ∙ sym (layer_get c.args.self.now m es c.args.at.now c.self.view_is))

pub returns-clause-ok : goal.returns-clause-ok
returns-clause-ok g c =
    let m = g.B.Base.coins c.self.inside.base.now in
    let es = c.self.inside.entries.entries in
    let k = c.args.at.now in
    on_ok c.take.result c.take.ensures.taken (λ w. layer_write c.args.self.now m es c.take.new.entries.entries k (entry_without_coin (entry_at es k) (map.get m k)) None c.self.view_is w
    (emptied_stands (entry_at es k) (map.get m k) (c.self.invariant.marks k)))

pub returns-clause-err : goal.returns-clause-err
returns-clause-err g c =
    let m = g.B.Base.coins c.self.inside.base.now in
    on_err c.take.result c.take.ensures.err (λ w. layer_same c.args.self.now m c.self.inside.entries.entries c.take.new.entries.entries c.self.view_is w)
