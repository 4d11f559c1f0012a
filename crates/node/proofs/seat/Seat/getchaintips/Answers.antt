use Rattle.std.proofs.Common.{◌≡◌, List, length, ap, sym, ◌∙◌}
use Rattle.model.specs.declared.entry.Entry.{Entry}
use Rattle.view.specs.ViewState.{ViewState}
use Rattle.node.specs.Pass.{Pass}
use Rattle.node.specs.Told.{shown_tips}
use Rattle.node.proofs.Seen.{read_there}
use Rattle.node.proofs.OwnEntries.{own_begins}
use Rattle.node.proofs.seat.Seat.getchaintips.Goals as goal

pub returns-in_default-clause-own : goal.returns-in_default-clause-own
returns-in_default-clause-own g c = let s = c.self.inside in own_begins s.token s.answered s.seen.entries s.owed.items

pub returns-in_err-value-clause-own : goal.returns-in_err-value-clause-own
returns-in_err-value-clause-own g c = let s = c.self.inside in own_begins s.token s.answered s.seen.entries s.owed.items

pub returns-clause-answer : goal.returns-clause-answer
returns-clause-answer g c =
    let p : Pass = c.args.self.now in
    let q : Pass = c.see-at.new.self in
    let x : ViewState = c.get.result.now in
    let f = c.in-Some.ensures.found in
    let see = c.see-at.ensures in
    let origin : x.origin ≡ p.origin = ap (λ (v : ViewState). v.origin) c.get.ensures ∙ f.origin_is ∙ ap (λ (r : Pass). r.origin) c.self.view_is in
    let journal : x.journal ≡ q.seen = ap (λ (v : ViewState). v.journal) c.get.ensures ∙ sym f.entries_are ∙ sym see.seen in
    let mine : q.mine ≡ p.mine = see.kept.0 ∙ ap (λ (r : Pass). r.mine) c.self.view_is in
    let wants : q.wants ≡ p.wants = see.kept.1 ∙ ap (λ (r : Pass). r.wants) c.self.view_is in
    read_there p q x c.see-at.result origin journal (see.at ∙ ap (λ (l : List Entry). length l) (sym see.seen)) mine wants shown_tips c.in_ok-value.value.items c.in_ok-value.ensures
