use Rattle.std.proofs.Common.{rules}
use Rattle.server.proofs.LogCalls.{goes_far, ends_far}
use Rattle.server.proofs.delivery.append_all.Goals as goal

pub returns-in-Err-clause-lost : goal.returns-in-Err-clause-lost
returns-in-Err-clause-lost g c =
    ends_far g.H.Host.calls c.args.log.log c.loop-entry.log.log c.in-Err.lost.host c.loop-entry.invariant.goes_on c.in-Err.ensures.lost

pub loop-entry-preserved : goal.loop-entry-preserved
loop-entry-preserved g c = record {
  goes_on = goes_far g.H.Host.calls c.args.log.log c.loop-entry.log.log c.in-Ok.now.log c.loop-entry.invariant.goes_on c.in-Ok.ensures.goes_on;
  appended = search rules;
}
