use Rattle.std.proofs.Common.{◌≡◌, sym, subst}
use Rattle.coins.specs.Coins.{Layer}
use Rattle.coins.specs.Changes.{Changes, AreChanges}
use Rattle.coins.specs.laws.Changes.{laid-changes}
use Rattle.coins.proofs.LayerChanges.{are_changes}
use Rattle.coins.proofs.cache.Cache.into_changes.Goals as goal

seen : (x l : Layer) (ds cs : Changes) → x ≡ l → cs ≡ ds → AreChanges x.base x.coins ds → AreChanges l.base l.coins cs
seen x l ds cs v e a =
    subst (λ (xs : Changes). AreChanges l.base l.coins xs) (sym e)
    (subst (λ (y : Layer). AreChanges y.base y.coins ds) v a)

pub from_entries-requires : goal.from_entries-requires
from_entries-requires g c =
    let m = g.B.Base.coins c.self.inside.base.now in
    let es = c.self.inside.entries.entries in
    (are_changes m es _ c.changing.ensures.was_ordered c.self.invariant c.changing.ensures.changing).in_order

pub returns-clause-differences : goal.returns-clause-differences
returns-clause-differences g c =
    let m = g.B.Base.coins c.self.inside.base.now in
    let es = c.self.inside.entries.entries in
    seen _ c.args.self _ c.from_entries.result c.self.view_is c.from_entries.ensures (are_changes m es _ c.changing.ensures.was_ordered c.self.invariant c.changing.ensures.changing)

pub returns-clause-laid : goal.returns-clause-laid
returns-clause-laid g c =
    let m = g.B.Base.coins c.self.inside.base.now in
    let es = c.self.inside.entries.entries in
    laid-changes c.args.self.base c.args.self.coins c.from_entries.result
    (seen _ c.args.self _ c.from_entries.result c.self.view_is c.from_entries.ensures (are_changes m es _ c.changing.ensures.was_ordered c.self.invariant c.changing.ensures.changing))
