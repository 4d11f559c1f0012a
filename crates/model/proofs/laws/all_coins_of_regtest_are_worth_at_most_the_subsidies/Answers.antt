use Rattle.coins.specs.Coins.{total}
use Rattle.block.specs.Reward.{subsidy_of}
use Rattle.model.specs.Regtest.{ledger, regtest}
use Rattle.model.specs.laws.Bound.{bounded}
use Rattle.model.specs.laws.Coins.{total-reached}
use Rattle.model.proofs.laws.all_coins_of_regtest_are_worth_at_most_the_subsidies.Goals as goal

pub returns : goal.returns
returns g = λ params triples cs. total-reached (regtest params triples) ledger total subsidy_of (bounded params triples) cs
