use Rattle.rounds.specs.laws.Rounds.{few-rounds}
use Rattle.rounds.proofs.laws.an_input_takes_few_rounds.Goals as goal

pub returns : goal.returns
returns c = λ q rounds h. few-rounds q rounds h
