use Rattle.std.proofs.Common.{◌≡◌, sym, ap, subst, ◌∙◌, Some, None, Option}
use Rattle.std.specs.Prelude.{get_or, slice_set, is_some}
use Rattle.std.specs.BTreeMap.{BTreeMap}
use Rattle.std.specs.FinMap as map
use Rattle.txn.specs.declared.outpoint.OutPoint.{OutPoint}
use Rattle.coins.specs.Coins.{Coin, Coins}
use Rattle.coins.specs.inside.Shards.{AreOfBytes, AreShards, together}
use Rattle.coins.specs.laws.Lookups.{entry_for}
use Rattle.coins.proofs.ManyMaps.{IsWritten, any_err, bytes_put, found, shards_kept, shards_written, together_kept, together_written}
use Rattle.coins.proofs.shards.Shards.exchange.Goals as goal

pub invariant_of-self : goal.invariant_of-self
invariant_of-self c =
    let ms = c.self.inside.maps.items in
    let m = c.index_mut.result.now in
    let n = c.insert.new.self in
    let at = c.index_mut.ensures.value ∙ ap (λ i. get_or ms i m) c.shard_of.ensures.place in
    let kept = together_kept ms m n c.args.at c.self.invariant.0 at c.in_err-insert.ensures.err in
    subst (λ i. AreShards (slice_set ms i n) × AreOfBytes (together (slice_set ms i n))) (sym c.shard_of.ensures.place)
    (shards_kept ms m n c.args.at c.self.invariant.0 at c.in_err-insert.ensures.err, subst AreOfBytes (sym kept) c.self.invariant.1)

pub returns-in_err-insert-clause-err : goal.returns-in_err-insert-clause-err
returns-in_err-insert-clause-err c =
    let ms = c.self.inside.maps.items in
    let m = c.index_mut.result.now in
    let n = c.insert.new.self in
    any_err c.from_residual.result _ (
    ap (λ i. together (slice_set ms i n)) c.shard_of.ensures.place
    ∙ together_kept ms m n c.args.at c.self.invariant.0 (c.index_mut.ensures.value ∙ ap (λ i. get_or ms i m) c.shard_of.ensures.place) c.in_err-insert.ensures.err
    ∙ c.self.view_is)

pub returns-in_err-insert-clause-present : goal.returns-in_err-insert-clause-present
returns-in_err-insert-clause-present c = λ there.
    let ms = c.self.inside.maps.items in
    let q = c.args.at in
    let d = c.index_mut.result.now in
    let none : map.get c.args.self.now q ≡ None =
    ap (λ (m : Coins). map.get m q) (sym c.self.view_is)
    ∙ found ms q d c.self.invariant.0
    ∙ sym (ap (λ (m : BTreeMap OutPoint Coin). entry_for m.entries q) (c.index_mut.ensures.value ∙ ap (λ n. get_or ms n d) c.shard_of.ensures.place))
    ∙ c.in_err-insert.ensures.absent in
    let no = sym there ∙ ap (λ (o : Option Coin). is_some o) none in
    cc

pub invariant_of-self-2 : goal.invariant_of-self-2
invariant_of-self-2 c =
    let ms = c.self.inside.maps.items in
    let m = c.index_mut.result.now in
    let n = c.insert.new.self in
    let k = c.args.at in
    let w = Some c.args.coin in
    let at = c.index_mut.ensures.value ∙ ap (λ i. get_or ms i m) c.shard_of.ensures.place in
    let written : IsWritten m n k w = λ q. c.in_ok-insert.ensures.updates.0 q in
    let put_there = together_written ms m n k w c.self.invariant.0 at written in
    subst (λ i. AreShards (slice_set ms i n) × AreOfBytes (together (slice_set ms i n))) (sym c.shard_of.ensures.place)
    (shards_written ms m n k w c.self.invariant.0 at written, bytes_put (together ms) _ k w put_there c.self.invariant.1 c.shard_of.ensures.bytes)

pub returns-clause-ok : goal.returns-clause-ok
returns-clause-ok c =
    let ms = c.self.inside.maps.items in
    let m = c.index_mut.result.now in
    let n = c.insert.new.self in
    let k = c.args.at in
    ap (λ i. together (slice_set ms i n)) c.shard_of.ensures.place
    ∙ together_written ms m n k (Some c.args.coin) c.self.invariant.0 (c.index_mut.ensures.value ∙ ap (λ i. get_or ms i m) c.shard_of.ensures.place) (λ q. c.in_ok-insert.ensures.updates.0 q)
    ∙ ap (λ (x : Coins). map.insert x k c.args.coin) c.self.view_is

pub returns-clause-old : goal.returns-clause-old
returns-clause-old c =
    let ms = c.self.inside.maps.items in
    let q = c.args.at in
    let d = c.index_mut.result.now in
    c.in_ok-insert.ensures.old
    ∙ ap (λ (m : BTreeMap OutPoint Coin). entry_for m.entries q) (c.index_mut.ensures.value ∙ ap (λ n. get_or ms n d) c.shard_of.ensures.place)
    ∙ sym (found ms q d c.self.invariant.0)
    ∙ ap (λ (m : Coins). map.get m q) c.self.view_is
