use Rattle.server.proofs.LogCalls.{goes_round, ends_far}
use Rattle.server.proofs.delivery.let_go.Goals as goal

pub returns-in-Ok-2-clause-lost : goal.returns-in-Ok-2-clause-lost
returns-in-Ok-2-clause-lost g c =
    let calls = g.H.Host.calls in
    ends_far calls c.args.log.log c.in-Ok.log.log c.given_up.result.host
    (goes_round calls c.args.log.log c.in-Ok.log.log c.in-Ok.ensures.same c.in-Ok.ensures.any_moment) c.given_up.ensures
