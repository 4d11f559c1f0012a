use Rattle.model.specs.laws.Settlement.{seen-words, seen_where}
use Rattle.model.proofs.laws.settling_sees_the_blocks_before_a_fault.Goals as goal

pub returns : goal.returns
returns g c = λ r s x. (seen-words r s x, seen_where r s x)
