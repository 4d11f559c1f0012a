use Rattle.std.proofs.Common.{◌≡◌, ap, sym}
use Rattle.view.specs.Origin.{Origin}
use Rattle.node.specs.Pass.{Pass}
use Rattle.node.specs.Told.{undo_in}
use Rattle.node.proofs.OwnEntries.{own_begins}
use Rattle.node.proofs.Seen.{read_after}
use Rattle.node.proofs.seat.Seat.spent_under_lock.Goals as goal

pub returns-clause-answer : goal.returns-clause-answer
returns-clause-answer g c =
    let p : Pass = c.args.self.now in
    let q : Pass = c.see_all.new.self in
    let o : Origin = g.J.Naming.origin in
    let see = c.in_ok-at.ensures in
    let same : o ≡ p.origin = ap (λ (r : Pass). r.origin) c.self.view_is in
    read_after (λ (x : Origin). undo_in x c.args.id.now) p q c.in_ok-at.at o c.publish_pending.new.self.journal c.in_ok-value.value same (sym see.seen.0) see.seen.1 see.mine see.wants c.in_ok-value.ensures

pub returns-then-not-publish_pending-clause-own : goal.returns-then-not-publish_pending-clause-own
returns-then-not-publish_pending-clause-own g c = let s = c.self.inside in rw (← c.self.view_is) (own_begins s.token s.answered s.seen.entries s.owed.items)

pub returns-in_err-value-clause-own : goal.returns-in_err-value-clause-own
returns-in_err-value-clause-own g c = let s = c.self.inside in rw (← c.self.view_is) (own_begins s.token s.answered s.seen.entries s.owed.items)
