use Rattle.model.specs.Chainstate.{chainstate}
use Rattle.model.specs.History.{state_after_entries}
use Rattle.model.specs.Regtest.{regtest}
use Rattle.model.specs.laws.Steps.{opening_sound}
use Rattle.histories.specs.laws.Coins.{after_holds}
use Rattle.histories.specs.laws.Heights.{submission}
use Rattle.histories.proofs.laws.a_submission_never_lowers_the_best_block.Goals as goal

pub returns : goal.returns
returns c = λ params valid es bytes now.
    let r = regtest params valid in
    let m = chainstate params valid in
    submission r (state_after_entries m m.opening es) (after_holds params valid m.opening es (opening_sound r, tt)).0 bytes now
