use Rattle.std.proofs.Common.{◌≡◌, ◌++◌, ◌∷◌, [], Option, reverse, sym, ap, subst, ◌∙◌}
use Rattle.std.specs.Option.{option_to_list}
use Rattle.txn.specs.declared.outpoint.OutPoint.{OutPoint}
use Rattle.coins.specs.Coins.{Coin, Coins}
use Rattle.coins.specs.Changes.{Changes}
use Rattle.coins.specs.inside.Changes.{Undoes}
use Rattle.coins.proofs.Rooms.{undoes_last}
use Rattle.coins.proofs.batch_write.put_back.Goals as goal

pub loop-at-preserved : goal.loop-at-preserved
loop-at-preserved c =
    let xs : Changes = c.pop.new.self.items in
    let ys : Changes = c.loop-at.before.items in
    let n = c.loop-at.coins in
    let at : OutPoint × Option Coin = (c.in-Some.at, c.in-Some.coin) in
    let is : ◌≡◌ {A = Changes} ys (xs ++ at ∷ []) = c.pop.ensures.items ∙ ap (λ (o : Option (OutPoint × Option Coin)). xs ++ option_to_list o) c.in-Some.is in
    let next : (m : Coins) → Undoes m n (reverse ys) → Undoes m c.set.new.self (reverse xs) =
    (λ m u. subst (λ (x : Coins). Undoes m x (reverse xs)) (sym c.set.ensures) (undoes_last m n xs ys at is u).1) in
    record {
      noted = λ m u. next m (c.loop-at.invariant.noted m u);
      some = (c.loop-at.invariant.some.0, next c.loop-at.invariant.some.0 c.loop-at.invariant.some.1);
    }
