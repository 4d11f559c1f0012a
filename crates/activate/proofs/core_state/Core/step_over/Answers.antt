use Rattle.std.proofs.Common.{ap, ◌∙◌, sym, subst}
use Rattle.coins.specs.Changes.{AreChanges, Changes, after_changes}
use Rattle.coins.specs.laws.Changes.{laid-changes}
use Rattle.model.specs.PreparedCommand.{command_of}
use Rattle.model.specs.declared.reply.Reply.{Reply}
use Rattle.model.specs.Regtest.{regtest}
use Rattle.activate.specs.declared.own_coins.ChangesToLay.{ChangesToLay}
use Rattle.activate.specs.inside.Preparation.{core_after_commit}
use Rattle.activate.specs.CoreState.{Follows, KeepsUndo, CoreState, coins_of}
use Rattle.activate.proofs.Undo.{few-of, more-undo, undo-follows}
use Rattle.activate.proofs.Outcomes.{follows-plan}
use Rattle.activate.proofs.core_state.Core.step_over.Goals as goal

pub flush-requires : goal.flush-requires
flush-requires g c =
    let triples = g.S.RunsScripts.agreeing c.args.env.now in
    (triples, (c.in_ok-prepared.ensures.prepared triples (g.met.S.RunsScripts.agrees c.args.env.now)).ready)

pub returns-clause-step : goal.returns-clause-step
returns-clause-step g c triples agrees =
    let a : CoreState = c.args.self.now in
    let r = regtest a.params triples in
    let prepared = c.in_ok-prepared.prepared in
    let plan = c.in_ok-prepared.ensures.prepared triples agrees in
    let done = c.in_ok-reply.ensures.ok triples plan.ready in
    let end = core_after_commit r a prepared in
    let few = few-of c.undo_kept-few.result a.undo_kept c.undo_kept-few.ensures.value c.undo_kept-few.ensures.few in
    record {
      outcome_is = ap (λ (x : CoreState). (x.state, c.in_ok-reply.reply)) done ∙ ap (λ (x : Reply). (end.state, x)) c.in_ok-reply.ensures.reply ∙ plan.outcome_is;
      changes_are =
          subst (λ (l : Changes). AreChanges (coins_of a) (coins_of c.flush.new.self) l) (ap (λ (x : ChangesToLay). x.list) (sym c.in_ok-reply.ensures.laid))
          (subst (λ (x : CoreState). AreChanges (coins_of a) (coins_of x) prepared.changes) (sym done) plan.changes_are);
      params_are = ap (λ (x : CoreState). x.params) done ∙ (follows-plan a triples (command_of c.args.command.now) prepared (c.requires.follows triples agrees) plan).0;
      undo_is = subst (λ (x : CoreState). KeepsUndo a x) (sym done) (record {
        one_more = more-undo r a _ prepared plan;
        follows = undo-follows a triples (command_of c.args.command.now) prepared (c.requires.follows triples agrees) plan few;
      });
    }

pub returns-clause-laid : goal.returns-clause-laid
returns-clause-laid g c =
    let triples = g.S.RunsScripts.agreeing c.args.env.now in
    let plan = c.in_ok-prepared.ensures.prepared triples (g.met.S.RunsScripts.agrees c.args.env.now) in
    let a : CoreState = c.args.self.now in
    let prepared = c.in_ok-prepared.prepared in
    ap (λ (x : ChangesToLay). after_changes (coins_of a) x.list) c.in_ok-reply.ensures.laid
    ∙ laid-changes (coins_of a) (coins_of (core_after_commit (regtest a.params triples) a prepared)) prepared.changes plan.changes_are ∙ sym (ap coins_of (c.in_ok-reply.ensures.ok triples plan.ready))

pub returns-clause-follows : goal.returns-clause-follows
returns-clause-follows g c triples agrees =
    let plan = c.in_ok-prepared.ensures.prepared triples agrees in
    subst (λ (x : CoreState). Follows x triples) (sym (c.in_ok-reply.ensures.ok triples plan.ready))
    (follows-plan c.args.self.now triples (command_of c.args.command.now) c.in_ok-prepared.prepared (c.requires.follows triples agrees) plan).1

pub returns-in_err-reply-clause-follows : goal.returns-in_err-reply-clause-follows
returns-in_err-reply-clause-follows g c triples agrees = subst (λ (x : CoreState). Follows x triples) (sym c.in_err-reply.ensures.err) (c.requires.follows triples agrees)
