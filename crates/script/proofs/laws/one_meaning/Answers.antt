use Rattle.script.specs.laws.Ops.{pushed-spelled, number-spelled}
use Rattle.script.proofs.laws.one_meaning.Goals as goal

pub returns-clause-number : goal.returns-clause-number
returns-clause-number c = number-spelled

pub returns-clause-pushed : goal.returns-clause-pushed
returns-clause-pushed c = pushed-spelled
