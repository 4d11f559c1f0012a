use Rattle.model.specs.laws.Coins.{total-reached}
use Rattle.model.proofs.laws.all_coins_are_worth_at_most_the_subsidies.Goals as goal

pub returns : goal.returns
returns g c = λ r ledger total subsidy cs bounded. total-reached r ledger total subsidy bounded cs
