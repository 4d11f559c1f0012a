use Rattle.model.specs.laws.Settlement.{bad-words, bad_where}
use Rattle.model.proofs.laws.settling_marks_the_first_fault.Goals as goal

pub returns : goal.returns
returns g c = λ r s x. (bad-words r s x, bad_where r s x)
