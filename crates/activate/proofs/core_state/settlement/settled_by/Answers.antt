use Rattle.std.proofs.Common.{refl, subst, ◌∙◌}
use Rattle.activate.specs.declared.plan.Completion.TheVariants.{Flag, Activate}
use Rattle.activate.specs.declared.path.TryOutcome.{TryOutcome}
use Rattle.activate.specs.CoreState.{CoreState}
use Rattle.activate.specs.inside.Paths.{FailsAt, LeadsTo, IsTryOutcome}
use Rattle.activate.proofs.Plans.{passed-less, said-after, said-once, settles_failed, settles_valid}
use Rattle.activate.proofs.core_state.settlement.settled_by.Goals as goal

pub returns-in-Succeeds : goal.returns-in-Succeeds
returns-in-Succeeds c r a tried =
    let p = c.args.place in
    let move = c.in-Succeeds.found in
    let leads : LeadsTo r a.state.blocks a.active p move = subst (λ (x : TryOutcome). IsTryOutcome r a.state.blocks a.active p x) c.in-Succeeds.is tried.came in record {
      settles = settles_valid r a p move tried.can tried.best leads (Activate p move.path move.undo) refl;
      said = said-once r a tried.can p tried.best leads.good;
    }

pub refused-said-requires : goal.refused-said-requires
refused-said-requires c =
    let r = c.requires.0 in
    let a : CoreState = c.requires.1 in
    let tried = c.requires.2 in
    let p = c.args.place in
    passed-less r a tried.can p tried.best c.in-Fails.failed (subst (λ (x : TryOutcome). IsTryOutcome r a.state.blocks a.active p x) c.in-Fails.is tried.came)

pub returns-in-Fails : goal.returns-in-Fails
returns-in-Fails c r a tried =
    let p = c.args.place in
    let failed = c.in-Fails.failed in
    let fails : FailsAt r a.state.blocks a.active p failed = subst (λ (x : TryOutcome). IsTryOutcome r a.state.blocks a.active p x) c.in-Fails.is tried.came in record {
      settles = settles_failed r a p failed tried.can tried.best.kept tried.one_try fails (Flag p failed) refl c.new.result c.new.ensures;
      said = c.refused-said.ensures ∙ said-after r a tried.can p tried.best failed fails;
    }
