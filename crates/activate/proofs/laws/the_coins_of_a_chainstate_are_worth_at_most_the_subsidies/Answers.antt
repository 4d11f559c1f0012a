use Rattle.std.proofs.Common.{pos, ◌≤ℤ◌, sym, ap, ◌∙◌, subst}
use Rattle.block.specs.Reward.{subsidy_of}
use Rattle.coins.specs.Coins.{Coins, total}
use Rattle.tree.specs.Branches.{height}
use Rattle.model.specs.Settle.{active}
use Rattle.model.specs.Total.{subsidies}
use Rattle.model.specs.Regtest.{ledger, regtest}
use Rattle.model.specs.laws.Actives.{active_kept, active_valid}
use Rattle.model.specs.laws.Bound.{bounded}
use Rattle.model.specs.laws.Coins.{total-valid}
use Rattle.activate.specs.CoreState.{coins_after}
use Rattle.activate.proofs.laws.the_coins_of_a_chainstate_are_worth_at_most_the_subsidies.Goals as goal

pub returns : goal.returns
returns g = λ c triples is.
    let r = regtest c.core.params triples in
    let s = c.core.state in
    let genesis = is.follows.sound.genesis in
    subst (λ (m : Coins). total m ≤ℤ pos (subsidies subsidy_of (height s.blocks (active r s))))
    (sym (is.coins_are ∙ ap (coins_after s.blocks) is.follows.active_is))
    (total-valid r ledger total subsidy_of (bounded c.core.params triples) s.blocks (active r s) is.follows.kept (active_kept r s genesis) (active_valid r s genesis))
