use Rattle.node.proofs.OwnEntries.{own_begins}
use Rattle.node.proofs.seat.Seat.see_all.Goals as goal

pub returns-then-not-begins-clause-own : goal.returns-then-not-begins-clause-own
returns-then-not-begins-clause-own g c = let s = c.self.inside in rw (← c.self.view_is) (own_begins s.token s.answered s.seen.entries s.owed.items)
