use Rattle.model.specs.laws.Bound.{bounded}
use Rattle.model.proofs.laws.a_block_raises_all_coins_by_at_most_its_subsidy.Goals as goal

pub returns : goal.returns
returns g = bounded
