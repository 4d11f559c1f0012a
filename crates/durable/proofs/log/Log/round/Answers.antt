use Rattle.std.proofs.Common.{List, ℕ, subst}
use Rattle.durable.specs.KeptSteps.{KeepsBetween}
use Rattle.durable.specs.Log.{history}
use Rattle.durable.proofs.FileCalls.{joined}
use Rattle.durable.proofs.log.Log.round.Goals as goal

pub returns-clause-any_moment : goal.returns-clause-any_moment
returns-clause-any_moment g c =
    let calls = g.H.Host.calls in
    joined (history calls c.args.self.now) (calls c.args.self.now.host) (calls c.commit.new.self.host) (calls c.let_go.new.self.host) c.commit.ensures.any_moment
    (subst (λ (l : List (List ℕ)). KeepsBetween l (calls c.commit.new.self.host) (calls c.let_go.new.self.host)) c.in_ok-commit.ensures.same c.let_go.ensures.any_moment)
