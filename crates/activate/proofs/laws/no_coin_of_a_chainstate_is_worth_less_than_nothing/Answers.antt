use Rattle.std.proofs.Common.{sym, ap, ◌∙◌, subst}
use Rattle.model.specs.Settle.{active}
use Rattle.model.specs.Regtest.{AreNotNegative, regtest}
use Rattle.model.specs.laws.Actives.{active_kept}
use Rattle.model.specs.laws.Values.{not_negative-at}
use Rattle.activate.specs.CoreState.{coins_after}
use Rattle.activate.proofs.laws.no_coin_of_a_chainstate_is_worth_less_than_nothing.Goals as goal

pub returns : goal.returns
returns g = λ c triples is.
    let r = regtest c.core.params triples in
    let s = c.core.state in
    subst AreNotNegative (sym (is.coins_are ∙ ap (coins_after s.blocks) is.follows.active_is))
    (not_negative-at c.core.params triples s.blocks (active r s) is.follows.kept (active_kept r s is.follows.sound.genesis))
