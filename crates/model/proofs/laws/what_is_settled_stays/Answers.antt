use Rattle.model.specs.laws.SettledState.{settle_twice}
use Rattle.model.proofs.laws.what_is_settled_stays.Goals as goal

pub returns : goal.returns
returns g c = λ r s z. settle_twice r s z
