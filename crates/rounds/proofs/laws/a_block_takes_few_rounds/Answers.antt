use Rattle.rounds.specs.laws.Blocks.{block-rounds}
use Rattle.rounds.proofs.laws.a_block_takes_few_rounds.Goals as goal

pub returns : goal.returns
returns c = λ s coins txs rounds h. block-rounds s coins txs rounds h
