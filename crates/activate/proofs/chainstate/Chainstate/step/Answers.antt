use Rattle.std.proofs.Common.{◌≡◌, ap, ◌∙◌, sym, subst}
use Rattle.signatures.specs.Triple.{Triples}
use Rattle.coins.specs.Coins.{Coins}
use Rattle.coins.specs.Changes.{after_changes}
use Rattle.coins.specs.laws.Changes.{laid-changes}
use Rattle.model.specs.Commands.{outcome}
use Rattle.model.specs.PreparedCommand.{command_of}
use Rattle.model.specs.Regtest.{regtest}
use Rattle.model.specs.declared.reply.Reply.{Reply}
use Rattle.activate.specs.inside.Preparation.{core_after_commit}
use Rattle.activate.specs.CoreState.{KeepsUndo, Follows, IsChainstate, CoreState, WithCoins, coins_of}
use Rattle.activate.proofs.Outcomes.{follows-plan}
use Rattle.activate.proofs.Undo.{few-of, more-undo, undo-follows}
use Rattle.activate.proofs.chainstate.Chainstate.step.Goals as goal

-- the struct's own fields are a chainstate
inside : {x y : WithCoins} (triples : Triples) → x ≡ y → IsChainstate y triples → IsChainstate x triples
inside triples same h = subst (λ (z : WithCoins). IsChainstate z triples) (sym same) h

abbrev with_coins : CoreState → Coins → WithCoins
with_coins core coins = record { core = core; coins = coins }

-- core and coins, both as they were
both_same : {a b : CoreState} {m n : Coins} → a ≡ b → m ≡ n → with_coins a m ≡ with_coins b n
both_same core coins i = with_coins (core i) (coins i)

pub prepare-requires-clause-follows : goal.prepare-requires-clause-follows
prepare-requires-clause-follows g c triples agrees = (inside triples c.self.view_is (c.requires.is_chainstate triples agrees)).follows

pub prepare-requires-clause-coins : goal.prepare-requires-clause-coins
prepare-requires-clause-coins g c =
    let triples = g.S.RunsScripts.agreeing c.args.env.now in
    c.map.ensures ∙ (inside triples c.self.view_is (c.requires.is_chainstate triples (g.met.S.RunsScripts.agrees c.args.env.now))).coins_are

pub flush-requires : goal.flush-requires
flush-requires g c =
    let triples = g.S.RunsScripts.agreeing c.args.env.now in
    (triples, (c.in_ok-prepared.ensures.prepared triples (g.met.S.RunsScripts.agrees c.args.env.now)).ready)

pub returns-clause-outcome : goal.returns-clause-outcome
returns-clause-outcome g c triples agrees =
    let a : CoreState = c.self.inside.core in
    let plan = c.in_ok-prepared.ensures.prepared triples agrees in
    let end : CoreState = core_after_commit (regtest a.params triples) a c.in_ok-prepared.prepared in
    ap (λ (x : CoreState). (x.state, c.in_ok-flush.field-0)) (c.in_ok-flush.ensures.ok triples plan.ready) ∙ ap (λ (x : Reply). (end.state, x)) c.in_ok-flush.ensures.reply ∙ plan.outcome_is
    ∙ ap (λ (x : WithCoins). outcome (regtest x.core.params triples) x.core.state (command_of c.args.command.now)) c.self.view_is

pub returns-clause-is_chainstate : goal.returns-clause-is_chainstate
returns-clause-is_chainstate g c triples agrees =
    let a : CoreState = c.self.inside.core in
    let prepared = c.in_ok-prepared.prepared in
    let was = inside triples c.self.view_is (c.requires.is_chainstate triples agrees) in
    let plan = c.in_ok-prepared.ensures.prepared triples agrees in
    let end : CoreState = core_after_commit (regtest a.params triples) a prepared in
    let done = c.in_ok-flush.ensures.ok triples plan.ready in
    record {
      follows = subst (λ (x : CoreState). Follows x triples) (sym done) (follows-plan a triples (command_of c.args.command.now) prepared was.follows plan).1;
      coins_are =
          c.in_ok-flush.ensures.laid ∙ ap (λ (m : Coins). after_changes m prepared.changes) was.coins_are ∙ laid-changes (coins_of a) (coins_of end) prepared.changes plan.changes_are
          ∙ sym (ap coins_of done);
    }

pub returns-clause-params : goal.returns-clause-params
returns-clause-params g c =
    let triples = g.S.RunsScripts.agreeing c.args.env.now in
    let agrees = g.met.S.RunsScripts.agrees c.args.env.now in
    let was = inside triples c.self.view_is (c.requires.is_chainstate triples agrees) in
    let plan = c.in_ok-prepared.ensures.prepared triples agrees in
    ap (λ (x : CoreState). x.params) (c.in_ok-flush.ensures.ok triples plan.ready)
    ∙ (follows-plan c.self.inside.core triples (command_of c.args.command.now) c.in_ok-prepared.prepared was.follows plan).0 ∙ ap (λ (x : WithCoins). x.core.params) c.self.view_is

pub returns-clause-undo : goal.returns-clause-undo
returns-clause-undo g c =
    let triples = g.S.RunsScripts.agreeing c.args.env.now in
    let agrees = g.met.S.RunsScripts.agrees c.args.env.now in
    let a : CoreState = c.self.inside.core in
    let prepared = c.in_ok-prepared.prepared in
    let was = inside triples c.self.view_is (c.requires.is_chainstate triples agrees) in
    let plan = c.in_ok-prepared.ensures.prepared triples agrees in
    let few = few-of c.undo_kept-few.result a.undo_kept c.undo_kept-few.ensures.value c.undo_kept-few.ensures.few in
    let both : KeepsUndo a c.flush.new.self = subst (λ (x : CoreState). KeepsUndo a x) (sym (c.in_ok-flush.ensures.ok triples plan.ready)) (record {
      one_more = more-undo (regtest a.params triples) a _ prepared plan;
      follows = undo-follows a triples (command_of c.args.command.now) prepared was.follows plan few;
    }) in
    subst (λ (x : WithCoins). KeepsUndo x.core c.flush.new.self) c.self.view_is both

pub returns-in_err-flush-clause-is_chainstate : goal.returns-in_err-flush-clause-is_chainstate
returns-in_err-flush-clause-is_chainstate g c triples agrees =
    inside triples (both_same c.in_err-flush.ensures.err c.in_err-flush.ensures.not_laid ∙ c.self.view_is) (c.requires.is_chainstate triples agrees)
