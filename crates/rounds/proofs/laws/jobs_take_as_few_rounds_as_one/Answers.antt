use Rattle.rounds.specs.laws.Jobs.{jobs-rounds}
use Rattle.rounds.proofs.laws.jobs_take_as_few_rounds_as_one.Goals as goal

pub returns : goal.returns
returns c = λ jobs rounds h. jobs-rounds jobs rounds h
