use Rattle.std.proofs.Common.{◌≡◌, length, fold}
use Rattle.script.specs.Op.{pushed_of}
use Rattle.script.specs.Ops.{ops}
use Rattle.script.specs.Signatures.{last_pushed}
use Rattle.script.proofs.signatures.last_pushed.Given as goal

abbrev pub invariant-loop-op : goal.invariant-loop-op
invariant-loop-op l = fold (λ _ op. pushed_of op) l.last (ops l.op-iterator) ≡ last_pushed l.script

abbrev pub decreases-loop-op : goal.decreases-loop-op
decreases-loop-op l = length (ops l.op-iterator)
