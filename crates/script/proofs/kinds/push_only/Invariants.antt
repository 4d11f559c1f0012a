use Rattle.std.proofs.Common.{◌≡◌, length}
use Rattle.script.specs.Ops.{ops}
use Rattle.script.specs.Kinds.{is_push_only}
use Rattle.script.proofs.kinds.push_only.Given as goal

abbrev pub invariant-loop-op : goal.invariant-loop-op
invariant-loop-op l = is_push_only l.ops ≡ is_push_only l.script

abbrev pub decreases-loop-op : goal.decreases-loop-op
decreases-loop-op l = length (ops l.ops)
