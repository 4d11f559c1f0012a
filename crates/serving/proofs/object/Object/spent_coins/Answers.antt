use Rattle.std.proofs.Common.{arith}
use Rattle.std.proofs.lemmas.Grind.{common_steps}
use Rattle.serving.proofs.object.Object.spent_coins.Goals as goal

pub loop-coin-preserved : goal.loop-coin-preserved
loop-coin-preserved c = grind (arith, common_steps)
