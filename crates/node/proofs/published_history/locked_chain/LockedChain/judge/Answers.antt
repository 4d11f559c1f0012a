use Rattle.std.proofs.Common.{◌∙◌, ap, sym, subst}
use Rattle.std.specs.List.{All}
use Rattle.signatures.specs.Known.{Agrees, all_known}
use Rattle.signatures.specs.Triple.{Triples}
use Rattle.queue.specs.Jobs.{IsEarly}
use Rattle.view.specs.ViewState.{ViewState}
use Rattle.node.specs.declared.published_history.knowledge.Knowledge.{Knowledge}
use Rattle.node.specs.inside.Knowledge.{known_of}
use Rattle.node.proofs.Cores.{lent_coins}
use Rattle.node.proofs.Knowledge.{agrees_there}
use Rattle.node.proofs.published_history.locked_chain.LockedChain.judge.Goals as goal

pub invariant_of-env : goal.invariant_of-env
invariant_of-env g c = record {
  ready = c.requires.crews.0;
  few = (c.requires.crews.2, c.requires.crews.3);
  right = subst (λ (table : Triples). All (IsEarly (all_known table)) c.args.crews.now.early.now) (sym c.deref.ensures) (rw c.in-Table.is at c.requires.early);
}

pub invariant_of-env-in-Found : goal.invariant_of-env-in-Found
invariant_of-env-in-Found g c = record {
  ready = c.requires.crews.1;
  few = (c.requires.crews.2, c.requires.crews.3);
  right = rw c.in-Found.is at c.requires.early;
}

pub judge_over-reply-requires-clause-follows : goal.judge_over-reply-requires-clause-follows
judge_over-reply-requires-clause-follows g c =
    let s = c.args.self.now in
    λ triples agrees.
    let table = subst (λ (t : Triples). Agrees (all_known t) triples) c.deref.ensures agrees in
    let here = subst (λ (k : Knowledge). Agrees (known_of k) triples) (sym c.in-Table.is) table in
    (c.requires.at.core_is.theirs triples (agrees_there g.J.Naming.origin s.known s.note.entries triples c.requires.at.known_is here)).is_chainstate.follows

pub judge_over-reply-requires-clause-coins : goal.judge_over-reply-requires-clause-coins
judge_over-reply-requires-clause-coins g c =
    let s = c.args.self.now in
    let f = c.in-Some.ensures in
    c.coins-coins.ensures ∙ ap (λ (v : ViewState). v.coins) c.get.ensures ∙ lent_coins g.J.Naming.origin c.in-Some.reading.part.value s.core s.note.entries f.exact f.origin f.whole c.requires.at.core_is

pub judge_over-reply-requires-in-Found-clause-follows : goal.judge_over-reply-requires-in-Found-clause-follows
judge_over-reply-requires-in-Found-clause-follows g c =
    let s = c.args.self.now in
    λ triples agrees.
    let here = subst (λ (k : Knowledge). Agrees (known_of k) triples) (sym c.in-Found.is) agrees in
    (c.requires.at.core_is.theirs triples (agrees_there g.J.Naming.origin s.known s.note.entries triples c.requires.at.known_is here)).is_chainstate.follows

pub judge_over-reply-requires-in-Found-clause-coins : goal.judge_over-reply-requires-in-Found-clause-coins
judge_over-reply-requires-in-Found-clause-coins g c =
    let s = c.args.self.now in
    let f = c.in-Some.ensures in
    c.coins-coins.ensures ∙ ap (λ (v : ViewState). v.coins) c.get.ensures ∙ lent_coins g.J.Naming.origin c.in-Some.reading.part.value s.core s.note.entries f.exact f.origin f.whole c.requires.at.core_is

pub returns-in_ok-reply-in-Table-clause-reply : goal.returns-in_ok-reply-in-Table-clause-reply
returns-in_ok-reply-in-Table-clause-reply g c =
    λ triples agrees.
    let table = subst (λ (k : Knowledge). Agrees (known_of k) triples) c.in-Table.is agrees in
    let here = subst (λ (t : Triples). Agrees (all_known t) triples) (sym c.deref.ensures) table in
    c.in_ok-reply-in-Table.ensures.reply triples here

pub returns-in_ok-reply-in-Found-clause-reply : goal.returns-in_ok-reply-in-Found-clause-reply
returns-in_ok-reply-in-Found-clause-reply g c =
    λ triples agrees.
    let here = subst (λ (k : Knowledge). Agrees (known_of k) triples) c.in-Found.is agrees in
    c.in_ok-reply-in-Found.ensures.reply triples here
