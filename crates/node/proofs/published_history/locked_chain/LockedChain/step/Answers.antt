use Rattle.std.proofs.Common.{◌∙◌, ap, sym, subst}
use Rattle.std.specs.List.{All}
use Rattle.signatures.specs.Known.{Agrees, all_known}
use Rattle.signatures.specs.Triple.{Triples}
use Rattle.queue.specs.Jobs.{IsEarly}
use Rattle.view.specs.ViewState.{ViewState}
use Rattle.node.specs.declared.published_history.knowledge.Knowledge.{Knowledge}
use Rattle.node.specs.inside.Knowledge.{known_of}
use Rattle.node.proofs.Cores.{lent_coins}
use Rattle.node.proofs.Knowledge.{agrees_there, learns_there}
use Rattle.node.proofs.published_history.locked_chain.LockedChain.step.Goals as goal

pub returns-in-Learn-clause-step : goal.returns-in-Learn-clause-step
returns-in-Learn-clause-step g c =
    let s = c.args.self.now in
    rw (c.in-Learn.is, c.new.ensures) (learns_there g.J.Naming.origin s.core s.known s.note c.in-Learn.triple c.in-Learn.valid c.requires.at)

pub invariant_of-env : goal.invariant_of-env
invariant_of-env g c = record {
  ready = c.requires.crews.0;
  few = (c.requires.crews.2, c.requires.crews.3);
  right = subst (λ (table : Triples). All (IsEarly (all_known table)) c.args.crews.now.early.now) (sym c.deref.ensures) (rw c.in-Table.is at c.requires.early);
}

pub invariant_of-env-in-Found : goal.invariant_of-env-in-Found
invariant_of-env-in-Found g c = record {
  ready = c.requires.crews.1;
  few = (c.requires.crews.2, c.requires.crews.3);
  right = rw c.in-Found.is at c.requires.early;
}

pub step_over-done-requires-clause-follows : goal.step_over-done-requires-clause-follows
step_over-done-requires-clause-follows g c =
    let s = c.args.self.now in
    λ triples agrees.
    let table = subst (λ (t : Triples). Agrees (all_known t) triples) c.deref.ensures agrees in
    let here = subst (λ (k : Knowledge). Agrees (known_of k) triples) (sym c.in-Table.is) table in
    (c.requires.at.core_is.theirs triples (agrees_there g.J.Naming.origin s.known s.note.entries triples c.requires.at.known_is here)).is_chainstate.follows

pub step_over-done-requires-clause-coins : goal.step_over-done-requires-clause-coins
step_over-done-requires-clause-coins g c =
    let s = c.args.self.now in
    let f = c.in-Some.ensures in
    c.coins-coins.ensures ∙ ap (λ (v : ViewState). v.coins) c.get.ensures ∙ lent_coins g.J.Naming.origin c.in-Some.reading.part.value s.core s.note.entries f.exact f.origin f.whole c.requires.at.core_is

pub step_over-done-requires-in-Found-clause-follows : goal.step_over-done-requires-in-Found-clause-follows
step_over-done-requires-in-Found-clause-follows g c =
    let s = c.args.self.now in
    λ triples agrees.
    let here = subst (λ (k : Knowledge). Agrees (known_of k) triples) (sym c.in-Found.is) agrees in
    (c.requires.at.core_is.theirs triples (agrees_there g.J.Naming.origin s.known s.note.entries triples c.requires.at.known_is here)).is_chainstate.follows

pub step_over-done-requires-in-Found-clause-coins : goal.step_over-done-requires-in-Found-clause-coins
step_over-done-requires-in-Found-clause-coins g c =
    let s = c.args.self.now in
    let f = c.in-Some.ensures in
    c.coins-coins.ensures ∙ ap (λ (v : ViewState). v.coins) c.get.ensures ∙ lent_coins g.J.Naming.origin c.in-Some.reading.part.value s.core s.note.entries f.exact f.origin f.whole c.requires.at.core_is

pub returns-in_ok-done-in-Table-clause-step : goal.returns-in_ok-done-in-Table-clause-step
returns-in_ok-done-in-Table-clause-step g c =
    λ triples agrees.
    let table = subst (λ (k : Knowledge). Agrees (known_of k) triples) c.in-Table.is agrees in
    let here = subst (λ (t : Triples). Agrees (all_known t) triples) (sym c.deref.ensures) table in
    let done = c.in_ok-done-in-Table.ensures in
    record {
      outcome_is = (done.step triples here).outcome_is;
      changes_are = (done.step triples here).changes_are;
      params_are = (done.step triples here).params_are;
      follows = done.follows triples here;
    }

pub returns-in_ok-done-in-Found-clause-step : goal.returns-in_ok-done-in-Found-clause-step
returns-in_ok-done-in-Found-clause-step g c =
    λ triples agrees.
    let here = subst (λ (k : Knowledge). Agrees (known_of k) triples) c.in-Found.is agrees in
    let done = c.in_ok-done-in-Found.ensures in
    record {
      outcome_is = (done.step triples here).outcome_is;
      changes_are = (done.step triples here).changes_are;
      params_are = (done.step triples here).params_are;
      follows = done.follows triples here;
    }
