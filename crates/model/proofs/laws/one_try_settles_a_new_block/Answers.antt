use Rattle.model.specs.laws.OneTry.{settle-added, active-added_good, active-added_bad}
use Rattle.model.proofs.laws.one_try_settles_a_new_block.Goals as goal

pub returns : goal.returns
returns g c = λ r s b p sound best. (settle-added r s sound b p best, (active-added_good r s sound b p best, active-added_bad r s sound b p best))
