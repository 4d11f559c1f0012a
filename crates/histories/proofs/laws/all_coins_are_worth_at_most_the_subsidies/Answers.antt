use Rattle.std.proofs.Common.{take}
use Rattle.histories.specs.laws.Coins.{worth}
use Rattle.histories.proofs.laws.all_coins_are_worth_at_most_the_subsidies.Goals as goal

pub returns : goal.returns
returns c = λ params valid es n. worth params valid (take n es)
