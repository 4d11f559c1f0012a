use Rattle.std.proofs.Common.{Some, sym, ◌∙◌}
use Rattle.std.specs.FinMap as map
use Rattle.coins.specs.Entries.{entry_at}
use Rattle.coins.specs.inside.Entries.{added_entry}
use Rattle.coins.proofs.Layers.{layer_get, layer_write, layer_same, sound_after, added_mark, added_stands, on_ok, on_err}
use Rattle.coins.proofs.cache.Cache.add.Goals as goal

pub invariant_of-self : goal.invariant_of-self
invariant_of-self g c =
    let m = g.B.Base.coins c.self.inside.base.now in
    let es = c.self.inside.entries.entries in
    let k = c.args.at in
    sound_after c.put.result m es c.put.new.entries.entries k (Some (added_entry (entry_at es k) c.args.coin)) c.put.ensures.ok c.put.ensures.err
    (added_mark (entry_at es k) c.args.coin (map.get m k) (c.self.invariant.marks k) (sym (layer_get c.args.self.now m es k c.self.view_is) ∙ c.requires))
    c.self.invariant

pub returns-clause-ok : goal.returns-clause-ok
returns-clause-ok g c =
    let m = g.B.Base.coins c.self.inside.base.now in
    let es = c.self.inside.entries.entries in
    let k = c.args.at in
    on_ok c.put.result c.put.ensures.ok (λ w. layer_write c.args.self.now m es c.put.new.entries.entries k (Some (added_entry (entry_at es k) c.args.coin)) (Some c.args.coin) c.self.view_is w
    (added_stands (entry_at es k) c.args.coin (map.get m k)))

pub returns-clause-err : goal.returns-clause-err
returns-clause-err g c =
    let m = g.B.Base.coins c.self.inside.base.now in
    on_err c.put.result c.put.ensures.err (λ w. layer_same c.args.self.now m c.self.inside.entries.entries c.put.new.entries.entries c.self.view_is w)
