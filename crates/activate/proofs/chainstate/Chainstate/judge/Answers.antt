use Rattle.std.proofs.Common.{◌≡◌, IfErr, IfOk, IfSome, ◌∙◌, sym, subst}
use Rattle.signatures.specs.Known.{Under}
use Rattle.model.specs.Commands.{outcome}
use Rattle.model.specs.PreparedCommand.{command_of}
use Rattle.model.specs.Regtest.{regtest}
use Rattle.activate.specs.CoreState.{IsChainstate, WithCoins}
use Rattle.activate.specs.Wants.{AreWantedByStep}
use Rattle.activate.proofs.chainstate.Chainstate.judge.Goals as goal

-- the struct's own fields are a chainstate
pub judge_over-requires-clause-follows : goal.judge_over-requires-clause-follows
judge_over-requires-clause-follows g c triples agrees = (subst (λ (x : WithCoins). IsChainstate x triples) (sym c.self.view_is) (c.requires.is_chainstate triples agrees)).follows

pub judge_over-requires-clause-coins : goal.judge_over-requires-clause-coins
judge_over-requires-clause-coins g c =
    let triples = g.S.RunsScripts.agreeing c.args.env.now in
    let agrees = g.met.S.RunsScripts.agrees c.args.env.now in
    c.map.ensures ∙ (subst (λ (x : WithCoins). IsChainstate x triples) (sym c.self.view_is) (c.requires.is_chainstate triples agrees)).coins_are

pub returns-clause-reply : goal.returns-clause-reply
returns-clause-reply g c =
    subst (λ (x : WithCoins). IfOk c.judge_over.result (λ reply. Under (g.S.RunsScripts.known c.args.env.now) (λ triples. reply ≡ (outcome (regtest x.core.params triples) x.core.state (command_of c.args.command.now)).1)))
    c.self.view_is c.judge_over.ensures.reply

pub returns-clause-wants : goal.returns-clause-wants
returns-clause-wants g c =
    subst (λ (x : WithCoins). IfErr c.judge_over.result (λ stop. IfSome (g.S.RunsScripts.told stop) (AreWantedByStep x.core (command_of c.args.command.now) (g.S.RunsScripts.known c.args.env.now))))
    c.self.view_is c.judge_over.ensures.wants
