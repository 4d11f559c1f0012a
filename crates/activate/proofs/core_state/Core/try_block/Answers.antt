use Rattle.std.proofs.Common.{sym, subst}
use Rattle.model.specs.Regtest.{regtest}
use Rattle.activate.specs.CoreState.{CoreState}
use Rattle.activate.specs.inside.Paths.{IsValid}
use Rattle.activate.proofs.core_state.Core.try_block.Goals as goal

pub try_block-requires-clause-valid : goal.try_block-requires-clause-valid
try_block-requires-clause-valid g c triples agrees =
    subst (λ (x : CoreState). IsValid (regtest x.params triples) x.state.blocks x.active) (sym c.active_branch.ensures.core) (c.requires.valid triples agrees)
