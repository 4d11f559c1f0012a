use Rattle.tree.specs.State.{opening}
use Rattle.model.specs.laws.Kept.{after_kept}
use Rattle.model.proofs.laws.each_kept_block_has_no_fault_by_itself.Goals as goal

pub returns : goal.returns
returns g c = λ r cs. after_kept r opening cs tt
