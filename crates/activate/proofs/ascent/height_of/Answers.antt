use Rattle.std.proofs.Common.{arith}
use Rattle.activate.proofs.ascent.height_of.Goals as goal

pub overflow_cast-result : goal.overflow_cast-result
overflow_cast-result c = let few = c.height.ensures.few in omega arith
