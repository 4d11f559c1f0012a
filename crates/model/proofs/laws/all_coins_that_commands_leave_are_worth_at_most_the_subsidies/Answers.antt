use Rattle.block.specs.Reward.{subsidy_of}
use Rattle.coins.specs.Coins.{total}
use Rattle.tree.specs.State.{opening}
use Rattle.model.specs.Settle.{active}
use Rattle.model.specs.Commands.{state_after_commands}
use Rattle.model.specs.Regtest.{ledger, regtest}
use Rattle.model.specs.laws.Actives.{active_kept, active_valid}
use Rattle.model.specs.laws.Bound.{bounded}
use Rattle.model.specs.laws.Coins.{total-valid}
use Rattle.model.specs.laws.Outcomes.{commands-settled}
use Rattle.model.specs.laws.Steps.{opening_sound}
use Rattle.model.specs.laws.Values.{not_negative-at}
use Rattle.model.proofs.laws.all_coins_that_commands_leave_are_worth_at_most_the_subsidies.Goals as goal

pub returns-clause-bounded : goal.returns-clause-bounded
returns-clause-bounded g = λ params triples cs.
    let r = regtest params triples in
    let s = state_after_commands r opening cs in
    let is = commands-settled r opening cs (opening_sound r) tt in
    total-valid r ledger total subsidy_of (bounded params triples) s.blocks (active r s) is.1 (active_kept r s is.0.genesis) (active_valid r s is.0.genesis)

pub returns-clause-not_negative : goal.returns-clause-not_negative
returns-clause-not_negative g = λ params triples cs.
    let r = regtest params triples in
    let s = state_after_commands r opening cs in
    let is = commands-settled r opening cs (opening_sound r) tt in
    not_negative-at params triples s.blocks (active r s) is.1 (active_kept r s is.0.genesis)
