use Rattle.server.specs.inside.Delivery.{GoesOn}
use Rattle.server.proofs.delivery.tell_as_they_come.Given as goal

abbrev pub invariant-loop : goal.invariant-loop
invariant-loop g l = record {
  turns : (goal.iterator-loop g).can_next l.iterator' × (goal.iterator-loop g).is_finite l.iterator';
  goes_on : GoesOn g.H.Host.calls l.fn.log.log l.log.log;
}
