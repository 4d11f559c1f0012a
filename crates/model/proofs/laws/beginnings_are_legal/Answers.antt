use Rattle.tree.specs.State.{opening}
use Rattle.model.specs.Chainstate.{chainstate}
use Rattle.model.specs.laws.History.{legal_front}
use Rattle.model.proofs.laws.beginnings_are_legal.Goals as goal

pub returns : goal.returns
returns c = λ params triples seats front rest h. legal_front (chainstate params triples) seats opening front rest h
