use Rattle.std.proofs.Common.{◌∷◌, ◌++◌, [], Option, reverse, sym, ap, subst, ◌∙◌}
use Rattle.std.specs.FinMap as map
use Rattle.coins.specs.Coins.{Coin, Coins}
use Rattle.coins.specs.Changes.{Changes}
use Rattle.coins.specs.inside.Changes.{Undoes}
use Rattle.coins.proofs.Rooms.{undoes_more}
use Rattle.coins.proofs.batch_write.bring.Goals as goal

pub returns-clause-noted : goal.returns-clause-noted
returns-clause-noted c = λ m u.
    let n = c.args.coins.now in
    let xs : Changes = c.args.before.now.items in
    let k = c.args.at in
    subst (λ (x : Coins). Undoes m x (reverse c.push_reserved.new.self.items)) (sym c.in_ok-old.ensures.ok)
    (subst (λ (ys : Changes). Undoes m (map.insert n k c.args.coin) (reverse ys))
    (sym (c.push_reserved.ensures.items ∙ ap (λ (ys : Changes). ys ++ (k, c.in_ok-old.old) ∷ []) c.reserve.ensures.items ∙ ap (λ (o : Option Coin). xs ++ (k, o) ∷ []) c.in_ok-old.ensures.old))
    (undoes_more m n xs k c.args.coin u))
