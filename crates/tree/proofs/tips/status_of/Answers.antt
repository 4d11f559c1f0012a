use Rattle.std.proofs.lemmas.Grind.{common_steps}
use Rattle.std.proofs.Common.{arith}
use Rattle.tree.specs.Tips.{status}
use Rattle.tree.proofs.tips.status_of.Goals as goal

pub returns-then-place-best : goal.returns-then-place-best
unfolding status
returns-then-place-best c = grind (arith, common_steps)

pub returns-then-not-usable : goal.returns-then-not-usable
unfolding status
returns-then-not-usable c = grind (arith, common_steps)

pub returns-then-seen : goal.returns-then-seen
unfolding status
returns-then-seen c = grind (arith, common_steps)

pub returns-else-seen : goal.returns-else-seen
unfolding status
returns-else-seen c = grind (arith, common_steps)
