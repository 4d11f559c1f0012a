use Rattle.std.proofs.Common.{arith}
use Rattle.block.proofs.Tree.{twin-next}
use Rattle.block.proofs.laws.twin_is_here_or_above.Goals as goal

pub returns : goal.returns
returns c = λ a b ids. twin-next _ (omega arith)
