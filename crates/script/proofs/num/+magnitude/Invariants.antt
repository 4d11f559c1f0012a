use Rattle.std.proofs.Common.{length}
use Rattle.script.proofs.num.+magnitude.Given as goal

abbrev pub decreases-magnitude : goal.decreases-magnitude
decreases-magnitude l = length l.bytes.now
