use Rattle.coins.specs.laws.Totals.{total-insert}
use Rattle.coins.proofs.laws.adding_raises_the_total.Goals as goal

pub returns : goal.returns
returns c = total-insert
