use Rattle.std.proofs.Common.{length, ap, arith}
use Rattle.sighash.proofs.first_code.checks_signatures.Goals as goal

pub loop-op-smaller : goal.loop-op-smaller
loop-op-smaller c = omega (arith, ap length c.in-Some.ensures.steps)

pub loop-op-preserved : goal.loop-op-preserved
loop-op-preserved c = (tt, tt)
