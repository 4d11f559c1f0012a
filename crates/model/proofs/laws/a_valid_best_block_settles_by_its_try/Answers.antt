use Rattle.model.specs.laws.Tries.{settle-best, active-best}
use Rattle.model.proofs.laws.a_valid_best_block_settles_by_its_try.Goals as goal

pub returns : goal.returns
returns g c = λ r s p z best v. (active-best r s p z best v, settle-best r s p z best v)
