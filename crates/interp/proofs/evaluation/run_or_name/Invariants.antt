use Rattle.std.proofs.Common.{◌≡◌, length}
use Rattle.script.specs.Ops.{ops, rest}
use Rattle.interp.specs.inside.RunningContext.{running_of}
use Rattle.interp.specs.State.{start}
use Rattle.interp.specs.computed.NamedFailures.{run_named}
use Rattle.interp.proofs.evaluation.run_or_name.Given as goal

-- what is left of the script comes to what the whole comes to
abbrev pub invariant-loop-op : goal.invariant-loop-op
invariant-loop-op g l = record {
  same : run_named (g.K.KnowsSignatures.known l.known) (running_of l.running) (rest l.script) (ops l.script) (start l.script l.fn.stack)
      ≡ run_named (g.K.KnowsSignatures.known l.known) (running_of l.running) (rest l.ahead) (ops l.ahead) l.execution;
  left : rest l.ahead ≡ rest l.script;
}

abbrev pub decreases-loop-op : goal.decreases-loop-op
decreases-loop-op g l = length (ops l.ahead)
