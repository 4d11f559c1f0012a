use Rattle.node.proofs.OwnEntries.{own_begins}
use Rattle.node.proofs.seat.Seat.journal.Goals as goal

pub returns-in_default-clause-own : goal.returns-in_default-clause-own
returns-in_default-clause-own g c = let s = c.self.inside in own_begins s.token s.answered s.seen.entries s.owed.items

pub returns-in_err-value-clause-own : goal.returns-in_err-value-clause-own
returns-in_err-value-clause-own g c = let s = c.self.inside in own_begins s.token s.answered s.seen.entries s.owed.items
