use Rattle.std.proofs.Common.{ap}
use Rattle.activate.specs.CoreState.{coins_after}
use Rattle.activate.proofs.laws.the_coins_of_a_core_are_the_replay_of_the_active_branch.Goals as goal

pub returns : goal.returns
returns g = λ c triples follows. ap (coins_after c.state.blocks) follows.active_is
