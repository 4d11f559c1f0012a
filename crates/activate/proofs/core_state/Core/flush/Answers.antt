use Rattle.std.proofs.Common.{sym, ap, ◌∙◌, subst}
use Rattle.model.specs.Regtest.{regtest}
use Rattle.activate.specs.CoreState.{CoreState}
use Rattle.activate.specs.inside.Preparation.{CanFinish, core_after_finish}
use Rattle.activate.proofs.core_state.Core.flush.Goals as goal

pub finish-requires : goal.finish-requires
finish-requires g c =
    (c.requires.0, subst (λ (x : CoreState). CanFinish (regtest x.params c.requires.0) x c.args.prepared.rest) (sym c.in_ok-edit.ensures.ok) c.requires.1.rest)

pub returns-clause-ok : goal.returns-clause-ok
returns-clause-ok g c triples ready =
    c.finish.ensures triples (subst (λ (x : CoreState). CanFinish (regtest x.params triples) x c.args.prepared.rest) (sym c.in_ok-edit.ensures.ok) ready.rest)
    ∙ ap (λ (x : CoreState). core_after_finish (regtest x.params triples) x c.args.prepared.rest) c.in_ok-edit.ensures.ok
