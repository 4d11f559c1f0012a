use Rattle.std.specs.Prelude.{IfSome}
use Rattle.std.proofs.Common.{◌≡◌, List, Option, sym, ap, ◌∙◌, subst}
use Rattle.activate.specs.declared.plan.Prepared.{Prepared}
use Rattle.model.specs.declared.reply.Reply.TheVariants as reply
use Rattle.model.specs.declared.reply.MarkReply.TheVariants.{Done}
use Rattle.model.specs.Commands.{outcome}
use Rattle.model.specs.PreparedCommand.{command_of}
use Rattle.activate.specs.inside.Preparation.{IsPreparationFor}
use Rattle.model.specs.Regtest.{regtest}
use Rattle.activate.specs.CoreState.{CoreState}
use Rattle.model.specs.laws.Outcomes.{invalidates, reconsiders, prefers, learns}
use Rattle.activate.proofs.PutInPlace.{if_ok, plan-still}
use Rattle.signatures.specs.Known.{Known}
use Rattle.signatures.specs.Triple.{Triple}
use Rattle.model.specs.declared.command.Command.{Command}
use Rattle.activate.specs.Wants.{AreWantedByStep}
use Rattle.activate.proofs.WantsOfBlocks.{if_err}
use Rattle.activate.proofs.core_state.Core.prepare_mark.Goals as goal

pub returns-in-Invalidate-clause-prepared : goal.returns-in-Invalidate-clause-prepared
returns-in-Invalidate-clause-prepared g c =
    let a : CoreState = c.args.self.now in
    if_ok c.prepare_invalidate.result (λ (prepared : Prepared) x triples agrees. let r = regtest a.params triples in subst (λ t. IsPreparationFor r a t prepared) (invalidates r a.state c.in-Invalidate.id ∙ ap (λ k. outcome r a.state (command_of k)) (sym c.in-Invalidate.is)) (x triples agrees)) c.prepare_invalidate.ensures.prepared

pub returns-in-Reconsider-clause-prepared : goal.returns-in-Reconsider-clause-prepared
returns-in-Reconsider-clause-prepared g c =
    let a : CoreState = c.args.self.now in
    if_ok c.prepare_reconsider.result (λ (prepared : Prepared) x triples agrees. let r = regtest a.params triples in subst (λ t. IsPreparationFor r a t prepared) (reconsiders r a.state c.in-Reconsider.id ∙ ap (λ k. outcome r a.state (command_of k)) (sym c.in-Reconsider.is)) (x triples agrees)) c.prepare_reconsider.ensures.prepared

pub returns-in-Precious-clause-prepared : goal.returns-in-Precious-clause-prepared
returns-in-Precious-clause-prepared g c =
    let a : CoreState = c.args.self.now in
    if_ok c.prepare_precious.result (λ (prepared : Prepared) x triples agrees. let r = regtest a.params triples in subst (λ t. IsPreparationFor r a t prepared) (prefers r a.state c.in-Precious.id ∙ ap (λ k. outcome r a.state (command_of k)) (sym c.in-Precious.is)) (x triples agrees)) c.prepare_precious.ensures.prepared

pub returns-in-Learn-clause-prepared : goal.returns-in-Learn-clause-prepared
returns-in-Learn-clause-prepared g c triples agrees =
    let a : CoreState = c.args.self.now in
    let r = regtest a.params triples in
    plan-still r a (reply.Mark Done) c.still.result (outcome r a.state (command_of c.args.command.now)) (c.requires.follows triples agrees).active_is c.still.ensures
    (learns r a.state c.in-Learn.field-0 c.in-Learn.field-1 ∙ ap (λ k. outcome r a.state (command_of k)) (sym c.in-Learn.is))

-- what a request wants is wanted by the command
wanted_step : (a : CoreState) (known : Known) (command same : Command) (told : Option (List Triple)) → command ≡ same → IfSome told (AreWantedByStep a command known) → IfSome told (AreWantedByStep a same known)
wanted_step a known command same told e are = subst (λ k. IfSome told (AreWantedByStep a k known)) e are

pub returns-in-Invalidate-clause-wants : goal.returns-in-Invalidate-clause-wants
returns-in-Invalidate-clause-wants g c =
    if_err c.prepare_invalidate.result (λ stop are. wanted_step c.args.self.now (g.S.RunsScripts.known c.args.env.now) _ _ (g.S.RunsScripts.told stop) (ap command_of (sym c.in-Invalidate.is)) are) c.prepare_invalidate.ensures.wants

pub returns-in-Reconsider-clause-wants : goal.returns-in-Reconsider-clause-wants
returns-in-Reconsider-clause-wants g c =
    if_err c.prepare_reconsider.result (λ stop are. wanted_step c.args.self.now (g.S.RunsScripts.known c.args.env.now) _ _ (g.S.RunsScripts.told stop) (ap command_of (sym c.in-Reconsider.is)) are) c.prepare_reconsider.ensures.wants

pub returns-in-Precious-clause-wants : goal.returns-in-Precious-clause-wants
returns-in-Precious-clause-wants g c =
    if_err c.prepare_precious.result (λ stop are. wanted_step c.args.self.now (g.S.RunsScripts.known c.args.env.now) _ _ (g.S.RunsScripts.told stop) (ap command_of (sym c.in-Precious.is)) are) c.prepare_precious.ensures.wants
