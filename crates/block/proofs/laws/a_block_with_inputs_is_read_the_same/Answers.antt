use Rattle.block.proofs.SameBlock.{read_same}
use Rattle.block.proofs.laws.a_block_with_inputs_is_read_the_same.Goals as goal

pub returns : goal.returns
returns c = λ bytes b fits read some. read_same bytes b fits read some
