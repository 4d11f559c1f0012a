use Rattle.model.specs.laws.Steps.{step-faulty}
use Rattle.model.proofs.laws.a_refused_block_leaves_the_state.Goals as goal

pub returns : goal.returns
returns g c = λ r s now b reason. step-faulty r s now b reason
