use Rattle.std.proofs.Common.{ap, sym, subst, ◌∙◌}
use Rattle.coins.specs.Coins.{Coins}
use Rattle.activate.specs.CoreState.{IsChainstate, CoreState, WithCoins, opened_core}
use Rattle.activate.proofs.Openings.{opens}
use Rattle.activate.proofs.chainstate.Chainstate.with.Goals as goal

pub returns-clause-is_chainstate : goal.returns-clause-is_chainstate
returns-clause-is_chainstate c triples =
    subst (λ (x : WithCoins). IsChainstate x triples)
    (sym (ap (λ t. with_coins t c.new.result) c.in_ok-with.ensures.value ∙ ap (with_coins (opened_core c.args.params)) c.new.ensures))
    (opens c.args.params triples)
  where
    with_coins : CoreState → Coins → WithCoins
    with_coins core coins = record { core = core; coins = coins }
