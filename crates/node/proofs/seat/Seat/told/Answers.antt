use Rattle.node.proofs.OwnEntries.{own_begins}
use Rattle.node.proofs.seat.Seat.told.Goals as goal

pub returns-else-begins-clause-own : goal.returns-else-begins-clause-own
returns-else-begins-clause-own g c = let s = c.self.inside in rw (← c.self.view_is) (own_begins s.token s.answered s.seen.entries s.owed.items)
