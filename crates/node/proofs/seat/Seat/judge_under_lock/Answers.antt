use Rattle.std.proofs.Common.{◌≡◌, List, refl, ap, sym, ◌∙◌}
use Rattle.model.specs.PreparedCommand.{command_of}
use Rattle.model.specs.declared.command.Command.{Command}
use Rattle.model.specs.declared.entry.Entry.{Entry}
use Rattle.view.specs.Origin.{Origin}
use Rattle.node.specs.Pass.{Pass, settled}
use Rattle.node.specs.Told.{reply_to}
use Rattle.node.specs.inside.PublishedState.{PublishedState}
use Rattle.node.proofs.DryRuns.{never_marked}
use Rattle.node.proofs.OwnEntries.{own_begins}
use Rattle.node.proofs.Seen.{read_after}
use Rattle.node.proofs.seat.Seat.judge_under_lock.Goals as goal

pub returns-in-Ok-Submit-clause-answer : goal.returns-in-Ok-Submit-clause-answer
returns-in-Ok-Submit-clause-answer g c =
    let p : Pass = settled c.args.self.now in
    let q : Pass = settled c.see_all.new.self in
    let k : Command = command_of c.args.command.now in
    let o : Origin = g.J.Naming.origin in
    let here = c.publish_pending.new.self in
    let see = c.in_ok-at-in-Ok-Submit.ensures in
    let said = rw c.in-Ok-Submit.field-0-is at c.in-Ok-Submit.ensures.reply in
    let seen : here.journal ≡ q.seen = sym (ap (λ (h : PublishedState). h.journal) c.in-Ok-Submit.ensures.same) ∙ sym see.seen.0 in
    rw c.settle.ensures.settled (read_after (λ (x : Origin). reply_to x k) p q c.in_ok-at-in-Ok-Submit.at o here.journal _ (ap (λ (r : Pass). r.origin) c.self.view_is) seen see.seen.1 see.mine refl said)

pub unreachable-requires : goal.unreachable-requires
unreachable-requires g c =
    never_marked g.J.Naming.origin c.publish_pending.new.self.journal (command_of c.args.command.now) _ c.requires.submits (rw c.in-Ok-Mark.field-0-is at c.in-Ok-Mark.ensures.reply)

pub returns-then-not-publish_pending-clause-own : goal.returns-then-not-publish_pending-clause-own
returns-then-not-publish_pending-clause-own g c = let s = c.self.inside in rw (← c.self.view_is) (own_begins s.token s.answered s.seen.entries s.owed.items)

pub returns-in-Err-Memory-clause-own : goal.returns-in-Err-Memory-clause-own
returns-in-Err-Memory-clause-own g c = let s = c.self.inside in rw (← c.self.view_is) (own_begins s.token s.answered s.seen.entries s.owed.items)

pub returns-in-Err-Closed-clause-own : goal.returns-in-Err-Closed-clause-own
returns-in-Err-Closed-clause-own g c = let s = c.self.inside in rw (← c.self.view_is) (own_begins s.token s.answered s.seen.entries s.owed.items)
