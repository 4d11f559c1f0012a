use Rattle.tree.specs.State.{opening}
use Rattle.model.specs.Settle.{active}
use Rattle.model.specs.Step.{state_after_requests}
use Rattle.model.specs.Regtest.{regtest}
use Rattle.model.specs.laws.Actives.{active_kept}
use Rattle.model.specs.laws.Kept.{after_kept}
use Rattle.model.specs.laws.Steps.{opening_sound, after_sound}
use Rattle.model.specs.laws.Values.{not_negative-at}
use Rattle.model.proofs.laws.no_coin_of_regtest_is_worth_less_than_nothing.Goals as goal

pub returns : goal.returns
returns g = λ params triples cs.
    let r = regtest params triples in
    let s = state_after_requests r opening cs in
    not_negative-at params triples s.blocks (active r s) (after_kept r opening cs tt) (active_kept r s (after_sound r opening cs (opening_sound r)).genesis)
