use Rattle.server.proofs.LogCalls.{ends}
use Rattle.server.proofs.delivery.given_up.Goals as goal

pub returns : goal.returns
returns g c = ends g.H.Host.calls c.args.log.log c.into_host.result c.args.log.sound c.into_host.ensures
