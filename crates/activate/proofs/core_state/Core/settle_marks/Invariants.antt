use Rattle.activate.specs.inside.Preparation.{TriesLead}
use Rattle.signatures.specs.Known.{Under}
use Rattle.model.specs.Regtest.{regtest}
use Rattle.model.specs.laws.Tries.{count_without_mark}
use Rattle.activate.proofs.core_state.Core.settle_marks.Given as goal

abbrev pub invariant-tries : goal.invariant-tries
invariant-tries g l = Under (g.S.RunsScripts.known l.env) (λ triples. TriesLead (regtest l.self.params triples) l.self l.initial.overlay l.overlay)

abbrev pub decreases-tries : goal.decreases-tries
decreases-tries g l = count_without_mark l.overlay
