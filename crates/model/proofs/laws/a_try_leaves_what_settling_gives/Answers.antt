use Rattle.model.specs.laws.Tries.{settle-tried, active-tried}
use Rattle.model.proofs.laws.a_try_leaves_what_settling_gives.Goals as goal

pub returns : goal.returns
returns g c = λ r s p z l k. (settle-tried r s p z l k, active-tried r s p z)
