use Rattle.std.proofs.Common.{length}
use Rattle.script.specs.Ops.{ops}
use Rattle.sighash.proofs.first_code.pushes.Given as goal

abbrev pub decreases-loop-op : goal.decreases-loop-op
decreases-loop-op l = length (ops l.op-iterator)
