use Rattle.model.specs.laws.OneTry.{settle-called, active-called_good, active-called_bad}
use Rattle.model.proofs.laws.one_try_settles_a_call.Goals as goal

pub returns : goal.returns
returns g c = λ r s p sound best. (settle-called r s sound p best, (active-called_good r s sound p best, active-called_bad r s sound p best))
