use Rattle.signatures.specs.laws.Growth.{learning-grows, learning-agrees}
use Rattle.signatures.proofs.laws.a_verdict_more_changes_no_other.Goals as goal

pub returns-clause-grows : goal.returns-clause-grows
returns-clause-grows c = learning-grows

pub returns-clause-agrees : goal.returns-clause-agrees
returns-clause-agrees c = learning-agrees
