use Rattle.std.proofs.Common.{arith}
use Rattle.std.proofs.lemmas.Grind.{common_steps}
use Rattle.serving.proofs.object.Object.tips.Goals as goal

pub loop-tip-preserved : goal.loop-tip-preserved
loop-tip-preserved c = grind (arith, common_steps)
