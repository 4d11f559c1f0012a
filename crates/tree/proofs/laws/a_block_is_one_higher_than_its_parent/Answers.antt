use Rattle.tree.specs.laws.Parents.{parent-below, height-parent, on-parent}
use Rattle.tree.proofs.laws.a_block_is_one_higher_than_its_parent.Goals as goal

pub returns : goal.returns
returns g c = λ t p z h. (parent-below t p z h, height-parent t p z h, on-parent t p z h)
