use Rattle.std.proofs.Common.{◌≡◌, ◌+◌, length}
use Rattle.script.specs.Ops.{ops}
use Rattle.script.specs.Signatures.{sigops_after, sigops}
use Rattle.script.proofs.signatures.sigops.Given as goal

abbrev pub invariant-loop-op : goal.invariant-loop-op
invariant-loop-op l = l.total + sigops_after l.counting l.before (ops l.op-iterator) ≡ sigops l.counting l.script

abbrev pub decreases-loop-op : goal.decreases-loop-op
decreases-loop-op l = length (ops l.op-iterator)
