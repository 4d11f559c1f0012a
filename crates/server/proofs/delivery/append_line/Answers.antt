use Rattle.server.proofs.LogCalls.{goes_line, ends}
use Rattle.server.proofs.delivery.append_line.Goals as goal

pub returns-in-Ok-clause-goes_on : goal.returns-in-Ok-clause-goes_on
returns-in-Ok-clause-goes_on g c =
    goes_line g.H.Host.calls c.args.log.log c.in-Ok.log.log c.args.line.items c.in-Ok.log.sound c.in-Ok.ensures.host c.in-Ok.ensures.appended

pub returns-in-Err-clause-lost : goal.returns-in-Err-clause-lost
returns-in-Err-clause-lost g c = ends g.H.Host.calls c.args.log.log c.in-Err.field-0.host c.args.log.sound c.in-Err.ensures.lost
