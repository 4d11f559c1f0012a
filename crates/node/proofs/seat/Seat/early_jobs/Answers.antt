use Rattle.std.proofs.Common.{[], refl}
use Rattle.std.proofs.lemmas.List.{append-nil}
use Rattle.node.proofs.OwnEntries.{own_begins}
use Rattle.node.proofs.seat.Seat.early_jobs.Goals as goal

pub returns-in_default-block-clause-own : goal.returns-in_default-block-clause-own
returns-in_default-block-clause-own g c = let s = c.self.inside in rw (← c.self.view_is) (own_begins s.token s.answered s.seen.entries s.owed.items)

pub returns-then-is_some-clause-own : goal.returns-then-is_some-clause-own
returns-then-is_some-clause-own g c = let s = c.self.inside in rw (← c.self.view_is) (own_begins s.token s.answered s.seen.entries s.owed.items)

pub returns-in_default : goal.returns-in_default
returns-in_default g c =
    let s = c.self.inside in
    rw (← c.self.view_is) (record {
      same = refl;
      later = record { number = refl; origin = refl; grows = ([], append-nil s.seen.entries); legal = c.self.invariant.0.legal };
      own = own_begins s.token s.answered s.seen.entries s.owed.items;
    })
