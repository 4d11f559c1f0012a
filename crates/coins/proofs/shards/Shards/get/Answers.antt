use Rattle.std.proofs.Common.{sym, ap, ◌∙◌}
use Rattle.std.specs.Prelude.{get_or}
use Rattle.std.specs.BTreeMap.{BTreeMap}
use Rattle.std.specs.FinMap as map
use Rattle.txn.specs.declared.outpoint.OutPoint.{OutPoint}
use Rattle.coins.specs.Coins.{Coin, Coins}
use Rattle.coins.specs.laws.Lookups.{entry_for}
use Rattle.coins.proofs.ManyMaps.{found}
use Rattle.coins.proofs.shards.Shards.get.Goals as goal

pub returns : goal.returns
returns c =
    let ms = c.self.inside.maps.items in
    let q = c.args.at.now in
    let d = c.index.result.now in
    c.get.ensures.value
    ∙ ap (λ (m : BTreeMap OutPoint Coin). entry_for m.entries q) (c.index.ensures ∙ ap (λ n. get_or ms n d) c.shard_of.ensures.place)
    ∙ sym (found ms q d c.self.invariant.0)
    ∙ ap (λ (m : Coins). map.get m q) c.self.view_is
