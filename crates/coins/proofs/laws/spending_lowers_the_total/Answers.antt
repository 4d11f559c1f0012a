use Rattle.coins.specs.laws.Totals.{total-remove}
use Rattle.coins.proofs.laws.spending_lowers_the_total.Goals as goal

pub returns : goal.returns
returns c = total-remove
