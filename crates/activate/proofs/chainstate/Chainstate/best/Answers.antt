use Rattle.std.proofs.Common.{ap, ◌∙◌, sym, subst}
use Rattle.model.specs.Settle.{best}
use Rattle.model.specs.Regtest.{regtest}
use Rattle.activate.specs.CoreState.{Follows, WithCoins}
use Rattle.activate.proofs.chainstate.Chainstate.best.Goals as goal

pub returns : goal.returns
returns c triples is =
    c.best.ensures triples (subst (λ (x : WithCoins). Follows x.core triples) (sym c.self.view_is) is.follows)
    ∙ ap (λ (x : WithCoins). best (regtest x.core.params triples) x.core.state) c.self.view_is
