use Rattle.std.proofs.Common.{arith}
use Rattle.block.proofs.Tree.{root-next}
use Rattle.block.proofs.laws.root_is_that_of_the_level_above.Goals as goal

pub returns : goal.returns
returns c = λ a b ids. root-next _ (omega arith)
