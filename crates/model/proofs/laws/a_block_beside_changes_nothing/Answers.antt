use Rattle.model.specs.laws.Steps.{step-beside}
use Rattle.model.proofs.laws.a_block_beside_changes_nothing.Goals as goal

pub returns : goal.returns
returns g c = λ r s now b p sound is e. step-beside r s sound now b p is e
