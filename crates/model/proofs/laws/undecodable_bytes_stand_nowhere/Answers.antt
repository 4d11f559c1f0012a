use Rattle.tree.specs.State.{opening}
use Rattle.model.specs.Chainstate.{chainstate}
use Rattle.model.specs.laws.History.{stands_within}
use Rattle.model.specs.laws.Commands.{undecodable}
use Rattle.model.proofs.laws.undecodable_bytes_stand_nowhere.Goals as goal

pub returns : goal.returns
returns c = λ params triples seats front rest e bytes now h is none. undecodable params triples seats _ e bytes now (stands_within (chainstate params triples) seats opening front rest e h) is none
