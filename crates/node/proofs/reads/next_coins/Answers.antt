use Rattle.std.proofs.Common.{◌≡◌, ◌++◌, ◌∷◌, [], ℕ, ◌≤◌, List, Some, None, length, length-append, ap, subst, sym, ◌∙◌, arith}
use Rattle.std.specs.Option.{option_copied, option_map}
use Rattle.txn.specs.declared.outpoint.OutPoint.{OutPoint}
use Rattle.coins.specs.declared.coin.Coin.{Coin}
use Rattle.coins.specs.Next.{IsNext}
use Rattle.node.specs.inside.CoinOrder.{Leads}
use Rattle.node.proofs.CoinWalk.{one-more, as-many, all-there}
use Rattle.node.proofs.reads.next_coins.Goals as goal

pub loop-preserved : goal.loop-preserved
loop-preserved c =
    let m = c.args.coins.now in
    let es = c.loop.list.items in
    let e : OutPoint × Coin = (c.in-Some.outpoint.now, c.in-Some.coin.now) in
    let next : IsNext m (option_copied c.loop.last) (Some e) = rw c.in-Some.is at c.after.ensures in
    let same : c.in_ok-copy.field-0 ≡ c.in-Some.coin.now = c.in_ok-copy.ensures in
    let grown : c.push.new.self.items ≡ es ++ e ∷ [] = rw same at c.in_ok-push.ensures.items in
    rw grown (one-more m (option_copied c.args.above) (option_copied c.loop.last) es e c.loop.invariant.0 next, omega (arith, length-append es (e ∷ []), c.loop.invariant.1))

pub returns-in_default : goal.returns-in_default
returns-in_default c =
    all-there c.args.coins.now (option_copied c.args.above) (option_copied c.loop.last) c.args.most c.loop.list.items c.loop.invariant.0 (omega (arith, c.loop.invariant.1, c.loop-test.true)) (rw c.in_default.is at c.after.ensures)

pub returns : goal.returns
returns c =
    as-many c.args.coins.now (option_copied c.args.above) (option_copied c.loop.last) c.args.most c.loop.list.items c.loop.invariant.0 (omega (arith, c.loop.invariant.1, c.loop-test.false, c.loop.auto.counter-end))
