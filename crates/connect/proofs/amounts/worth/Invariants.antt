use Rattle.std.proofs.Common.{◌≡◌, ◌*◌, drop, pos, neg_ℤ, ◌≤ℤ◌, ◌+ℤ◌}
use Rattle.coins.specs.Coins.{sum_of_values}
use Rattle.connect.proofs.amounts.worth.Given as goal

abbrev pub invariant-loop-coin : goal.invariant-loop-coin
invariant-loop-coin l = record {
  sum : l.sum +ℤ sum_of_values (drop l.coin-index l.coins) ≡ sum_of_values l.coins;
  low : neg_ℤ (pos (9223372036854775808 * l.coin-index)) ≤ℤ l.sum;
  high : l.sum ≤ℤ pos (9223372036854775808 * l.coin-index);
}
