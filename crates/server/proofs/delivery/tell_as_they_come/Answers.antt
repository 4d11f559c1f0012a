use Rattle.server.proofs.LogCalls.{goes_far, ends_far, stays}
use Rattle.server.proofs.delivery.tell_as_they_come.Goals as goal

pub loop-init : goal.loop-init
loop-init g c = record { turns = (tt, tt); goes_on = stays g.H.Host.calls c.args.log.log c.args.log.sound }

pub returns-in-Err-clause-lost : goal.returns-in-Err-clause-lost
returns-in-Err-clause-lost g c =
    ends_far g.H.Host.calls c.args.log.log c.loop.log.log c.given_up.result.host c.loop.invariant.goes_on c.given_up.ensures

pub returns-in-Err-tell_all-clause-lost : goal.returns-in-Err-tell_all-clause-lost
returns-in-Err-tell_all-clause-lost g c =
    ends_far g.H.Host.calls c.args.log.log c.loop.log.log c.in-Err-tell_all.lost.host c.loop.invariant.goes_on c.in-Err-tell_all.ensures.lost

pub loop-preserved : goal.loop-preserved
loop-preserved g c = record {
  turns = (tt, tt);
  goes_on = goes_far g.H.Host.calls c.args.log.log c.loop.log.log c.in-Ok.now.log c.loop.invariant.goes_on c.in-Ok.ensures.goes_on;
}
