use Rattle.model.specs.Settle.{can_be_active}
use Rattle.model.specs.laws.Actives.{active_is}
use Rattle.model.proofs.laws.the_active_block_is_the_best_that_can_be_active.Goals as goal

pub returns : goal.returns
unfolding can_be_active
returns g c = λ r s genesis. active_is r s genesis
