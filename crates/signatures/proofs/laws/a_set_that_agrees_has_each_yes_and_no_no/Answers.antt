use Rattle.signatures.specs.laws.Growth.{found-agrees}
use Rattle.signatures.proofs.laws.a_set_that_agrees_has_each_yes_and_no_no.Goals as goal

pub returns : goal.returns
returns c = found-agrees
