use Rattle.node.proofs.OwnEntries.{own_begins}
use Rattle.node.proofs.seat.Seat.submit.Goals as goal

pub returns-in_err-from_slice-clause-own : goal.returns-in_err-from_slice-clause-own
returns-in_err-from_slice-clause-own g c = let s = c.self.inside in rw (← c.self.view_is) (own_begins s.token s.answered s.seen.entries s.owed.items)
