use Rattle.server.specs.inside.Delivery.{GoesOn, Appends}
use Rattle.server.proofs.delivery.append_all.Given as goal

abbrev pub invariant-loop-entry : goal.invariant-loop-entry
invariant-loop-entry g l = record {
  goes_on : GoesOn g.H.Host.calls l.fn.log.log l.log.log;
  appended : Appends g.H.Host.calls l.fn.log.log l.log.log l.entry-index;
}
