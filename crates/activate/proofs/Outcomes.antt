-- What holds of the states that commands leave.
use Rattle.std.proofs.Common.{◌≡◌, refl, sym, ap, subst}
use Rattle.block.specs.declared.block.Block.{Block}
use Rattle.signatures.specs.Triple.{Triples}
use Rattle.rules.specs.declared.params.Params.{Params}
use Rattle.tree.specs.State.{State}
use Rattle.model.specs.declared.command.Command.{Command}
use Rattle.hash.specs.declared.id.Id.{Id}
use Rattle.activate.specs.declared.plan.Prepared.{Prepared}
use Rattle.activate.specs.declared.plan.Completion.{Completion}
use Rattle.activate.specs.declared.plan.Completion.TheVariants.{Nothing, Flag, Activate}
use Rattle.model.specs.Rules.{Rules}
use Rattle.model.specs.Submission.{Outcome}
use Rattle.model.specs.Settle.{active}
use Rattle.model.specs.Commands.{outcome}
use Rattle.model.specs.StateInvariant.{IsSettled, AllKept}
use Rattle.model.specs.Regtest.{regtest}
use Rattle.activate.specs.CoreState.{CoreState, Follows}
use Rattle.activate.specs.inside.Preparation.{IsPreparation, core_after_commit, core_after_finish, edited}
use Rattle.model.specs.laws.Outcomes.{each-outcome}
use Rattle.model.specs.laws.Steps.{step_sound}
use Rattle.model.specs.laws.Kept.{step_kept}

-- the rules stay
params_after : (r : Rules Block Id) (b : CoreState) (rest : Completion) → (core_after_finish r b rest).params ≡ b.params
params_after r b Nothing = refl
params_after r b (Flag p failed) = refl
params_after r b (Activate p path undo) = refl

-- what is prepared and put in place follows
pub follows-plan : (a : CoreState) (triples : Triples) (c : Command) (prepared : Prepared) → Follows a triples → IsPreparation (regtest a.params triples) a c prepared
    → ((core_after_commit (regtest a.params triples) a prepared).params ≡ a.params) × Follows (core_after_commit (regtest a.params triples) a prepared) triples
follows-plan a triples c prepared follows is =
    let r = regtest a.params triples in
    let f : CoreState = core_after_commit r a prepared in
    let params : f.params ≡ a.params = params_after r (edited a prepared.edit) prepared.rest in
    let state : f.state ≡ (outcome r a.state c).0 = ap (λ (o : Outcome Block). o.0) is.outcome_is in
    let sound : IsSettled r f.state = subst (λ (s : State Block). IsSettled r s) (sym state) (each-outcome r a.state (λ s. IsSettled r s) follows.sound (λ q. step_sound r a.state follows.sound q) c) in
    let kept : AllKept r f.state.blocks = subst (λ (s : State Block). AllKept r s.blocks) (sym state) (each-outcome r a.state (λ s. AllKept r s.blocks) follows.kept (λ q. step_kept r a.state follows.kept q) c) in (
      params,
      record {
        sound = subst (λ (p : Params). IsSettled (regtest p triples) f.state) (sym params) sound;
        kept = subst (λ (p : Params). AllKept (regtest p triples) f.state.blocks) (sym params) kept;
        active_is = subst (λ (p : Params). f.active ≡ active (regtest p triples) f.state) (sym params) is.active_is;
      },
    )
