use Rattle.std.proofs.lemmas.Slice.Eq.{slice_eq-Decides}
use Rattle.wire.proofs.parts.PartsPartialEq.eq.Goals as goal

pub returns-clause-equal : goal.returns-clause-equal
returns-clause-equal g c = λ exact. rw (← c.self.view_is, ← c.other.view_is) (slice_eq-Decides exact _ _ c.eq.result c.eq.ensures)
