use Rattle.rounds.specs.laws.Commands.{command-rounds}
use Rattle.rounds.proofs.laws.a_command_takes_few_rounds_a_block.Goals as goal

pub returns : goal.returns
returns c = λ core command triples rounds agree h. command-rounds core command triples rounds agree h
