use Rattle.node.proofs.OwnEntries.{own_begins}
use Rattle.node.proofs.seat.Seat.note.Goals as goal

pub returns-clause-own : goal.returns-clause-own
returns-clause-own g c = let s = c.self.inside in rw (← c.self.view_is) (own_begins s.token s.answered s.seen.entries s.owed.items)
