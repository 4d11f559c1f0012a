use Rattle.model.specs.Chainstate.{chainstate}
use Rattle.histories.specs.laws.Verdicts.{state_without}
use Rattle.histories.proofs.laws.verdicts_change_no_state.Goals as goal

pub returns : goal.returns
returns c = λ params valid es. state_without params valid (chainstate params valid).opening es
