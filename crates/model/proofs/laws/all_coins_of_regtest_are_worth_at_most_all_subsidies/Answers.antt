use Rattle.std.proofs.Common.{arith}
use Rattle.std.proofs.lemmas.Int.{ints}
use Rattle.coins.specs.Coins.{total}
use Rattle.block.specs.Reward.{subsidy_of}
use Rattle.tree.specs.Branches.{height}
use Rattle.tree.specs.State.{opening}
use Rattle.model.specs.Settle.{active}
use Rattle.model.specs.Step.{state_after_requests}
use Rattle.model.specs.Regtest.{ledger, regtest}
use Rattle.model.specs.laws.Bound.{bounded}
use Rattle.model.specs.laws.Coins.{total-reached}
use Rattle.model.specs.laws.Subsidies.{subsidies-end}
use Rattle.model.proofs.laws.all_coins_of_regtest_are_worth_at_most_all_subsidies.Goals as goal

pub returns : goal.returns
returns g = λ params triples cs.
    let r = regtest params triples in
    let s = state_after_requests r opening cs in
    let worth = total-reached r ledger total subsidy_of (bounded params triples) cs in
    let end = subsidies-end (height s.blocks (active r s)) in
    omega (arith, ints)
