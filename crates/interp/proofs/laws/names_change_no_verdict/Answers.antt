use Rattle.interp.specs.laws.FailureNames.{eval-same, verify-same}
use Rattle.interp.proofs.laws.names_change_no_verdict.Goals as goal

pub returns-clause-scripts : goal.returns-clause-scripts
returns-clause-scripts c = eval-same

pub returns-clause-inputs : goal.returns-clause-inputs
returns-clause-inputs c = verify-same
