use Rattle.tree.specs.State.{opening}
use Rattle.model.specs.Chainstate.{chainstate}
use Rattle.model.specs.laws.History.{state_after-append}
use Rattle.model.proofs.laws.states_follow.Goals as goal

pub returns : goal.returns
returns c = λ params triples front rest. state_after-append (chainstate params triples) opening front rest
