use Rattle.std.proofs.Common.{ap, sym, subst, ◌∙◌, Some, arith}
use Rattle.std.specs.Option.{option_copied}
use Rattle.std.specs.FinMap as map
use Rattle.std.specs.Prelude.{is_some}
use Rattle.txn.specs.declared.outpoint.OutPoint.{OutPoint}
use Rattle.coins.specs.Coins.{Coin, Coins}
use Rattle.coins.specs.Next.{IsNext}
use Rattle.coins.proofs.NextCoins.{least_of_all, next_place, some_of}
use Rattle.coins.proofs.shards.Shards.after.Goals as goal

pub returns-in-Some : goal.returns-in-Some
returns-in-Some c =
    let ms = c.self.inside.maps.items in
    let m = c.index.result.now in
    let i = c.loop-index.index in
    let e : OutPoint × Coin = (c.in-Some.found.0.now, c.in-Some.found.1.now) in
    let from = option_copied c.args.at in
    subst (λ (x : Coins). IsNext x from (Some e)) c.self.view_is
    (least_of_all ms m i from e c.self.invariant.0 c.self.invariant.1 c.index.ensures (omega (arith, c.loop-index-test.true, c.last_place-last.ensures.below)) c.in-Some.ensures
    (λ q above some. c.loop-index.invariant q above (ap (λ (x : Coins). is_some (map.get x q)) (sym c.self.view_is) ∙ some)))

pub loop-index-preserved : goal.loop-index-preserved
loop-index-preserved c = λ q above some.
    let ms = c.self.inside.maps.items in
    let m = c.index.result.now in
    let i = c.loop-index.index in
    next_place ms m i q c.self.invariant.0 c.index.ensures (c.loop-index.invariant q above some) (c.in_default.ensures q above)
    (ap (λ (x : Coins). is_some (map.get x q)) c.self.view_is ∙ some)

pub returns : goal.returns
returns c = λ q above some.
    let there = some_of (map.get c.args.self.now q) some in
    let up = c.loop-index.invariant q above there in
    c.last_place-last.ensures.beyond q (c.self.invariant.1 q (ap (λ (x : Coins). is_some (map.get x q)) c.self.view_is ∙ there)) (omega (arith, up, c.loop-index-test.false))
