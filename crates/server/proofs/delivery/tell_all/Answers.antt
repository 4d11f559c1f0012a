use Rattle.std.proofs.lemmas.Result.{IfOk-weaker, MatchResult-weaker}
use Rattle.server.specs.inside.Delivery.{GoesOn}
use Rattle.server.proofs.LogCalls.{goes_far, ends_far}
use Rattle.server.proofs.delivery.tell_all.Goals as goal

pub returns-in-Ok-clause-goes_on : goal.returns-in-Ok-clause-goes_on
returns-in-Ok-clause-goes_on g c =
    let calls = g.H.Host.calls in
    IfOk-weaker c.let_go.result (λ now. GoesOn calls c.in-Ok.log.log now.log) (λ now. GoesOn calls c.args.log.log now.log)
    (λ now. goes_far calls c.args.log.log c.in-Ok.log.log now.log c.in-Ok.ensures.goes_on) c.let_go.ensures.goes_on

pub returns-in-Ok-clause-lost : goal.returns-in-Ok-clause-lost
returns-in-Ok-clause-lost g c =
    MatchResult-weaker c.let_go.result c.let_go.ensures.lost (λ _ x. x)
    (λ lost. ends_far g.H.Host.calls c.args.log.log c.in-Ok.log.log lost.host c.in-Ok.ensures.goes_on)
