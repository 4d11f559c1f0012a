use Rattle.std.proofs.Common.{sym, ap, subst, ◌∙◌, None}
use Rattle.std.specs.Prelude.{get_or, slice_set}
use Rattle.std.specs.FinMap as map
use Rattle.coins.specs.Coins.{Coins}
use Rattle.coins.specs.inside.Shards.{AreOfBytes, AreShards, together}
use Rattle.coins.proofs.ManyMaps.{IsWritten, bytes_put, shards_written, together_written}
use Rattle.coins.proofs.shards.Shards.remove.Goals as goal

pub invariant_of-self : goal.invariant_of-self
invariant_of-self c =
    let ms = c.self.inside.maps.items in
    let m = c.index_mut.result.now in
    let n = c.remove.new.self in
    let k = c.args.at.now in
    let at = c.index_mut.ensures.value ∙ ap (λ i. get_or ms i m) c.shard_of.ensures.place in
    let written : IsWritten m n k None = λ q. c.remove.ensures.updates.0 q in
    let put_there = together_written ms m n k None c.self.invariant.0 at written in
    subst (λ i. AreShards (slice_set ms i n) × AreOfBytes (together (slice_set ms i n))) (sym c.shard_of.ensures.place)
    (shards_written ms m n k None c.self.invariant.0 at written, bytes_put (together ms) _ k None put_there c.self.invariant.1 c.shard_of.ensures.bytes)

pub returns : goal.returns
returns c =
    let ms = c.self.inside.maps.items in
    let m = c.index_mut.result.now in
    let n = c.remove.new.self in
    let k = c.args.at.now in
    ap (λ i. together (slice_set ms i n)) c.shard_of.ensures.place
    ∙ together_written ms m n k None c.self.invariant.0 (c.index_mut.ensures.value ∙ ap (λ i. get_or ms i m) c.shard_of.ensures.place) (λ q. c.remove.ensures.updates.0 q)
    ∙ ap (λ (x : Coins). map.remove x k) c.self.view_is
