use Rattle.std.proofs.Common.{◌≡◌, ◌+◌, List, drop, ap, ◌+ℤ◌, arith}
use Rattle.std.proofs.lemmas.Int.{ints}
use Rattle.coins.specs.declared.coin.Coin.{Coin}
use Rattle.coins.specs.Coins.{sum_of_values}
use Rattle.connect.proofs.Steps.{drop_item}
use Rattle.connect.proofs.amounts.worth.Goals as goal

pub loop-coin-preserved : goal.loop-coin-preserved
loop-coin-preserved c =
    let xs = c.args.coins.now in
    let i = c.loop-coin.coin-index in
    let x = c.coin-item.result in
    let next : sum_of_values (drop i xs) ≡ x.value +ℤ sum_of_values (drop (i + 1) xs) = ap (λ (l : List Coin). sum_of_values l) (drop_item xs i x (omega arith) c.coin-item.is) in
    let value = c.from-sum.ensures in
    record { sum = omega (arith, ints); low = omega (arith, ints); high = omega (arith, ints) }
