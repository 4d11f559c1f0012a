use Rattle.coins.specs.laws.Totals.{total-empty}
use Rattle.coins.proofs.laws.no_coins_are_worth_nothing.Goals as goal

pub returns : goal.returns
returns c = total-empty
