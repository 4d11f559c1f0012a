use Rattle.std.proofs.Common.{length, ◌+◌, ◌∷◌, [], sym, ap, subst, ◌∙◌, length-append, arith}
use Rattle.coins.specs.inside.Shards.{Maps}
use Rattle.coins.proofs.ManyMaps.{AreEmpty, bytes_empty, one_more_empty, shards_empty, together_empty}
use Rattle.coins.proofs.shards.Shards.new.Goals as goal

pub loop-preserved : goal.loop-preserved
loop-preserved c =
    let ms = c.loop.maps.items in
    let m = c.new.result in
    record {
      count = ap (λ (xs : Maps). length xs) c.in_ok-push.ensures.items ∙ length-append ms (m ∷ []) ∙ ap (λ n. n + 1) c.loop.invariant.count;
      empty = subst AreEmpty (sym c.in_ok-push.ensures.items) (one_more_empty ms m c.loop.invariant.empty c.new.ensures.empty);
    }

pub invariant_of-result : goal.invariant_of-result
invariant_of-result c =
    let ms = c.loop.maps.items in
    (shards_empty ms (c.loop.invariant.count ∙ omega (arith, c.loop-test.false, c.loop.auto.counter-end)) c.loop.invariant.empty, bytes_empty _ (together_empty ms c.loop.invariant.empty))

pub returns : goal.returns
returns c = together_empty c.loop.maps.items c.loop.invariant.empty
