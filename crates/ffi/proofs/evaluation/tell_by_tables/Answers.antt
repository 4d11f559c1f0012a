-- Both tables can be read, or one can't.
use Rattle.std.proofs.Common.{inl, inr, refl}
use Rattle.ffi.proofs.evaluation.tell_by_tables.Goals as goal

pub returns-in-Ok : goal.returns-in-Ok
returns-in-Ok c = inl (c.in-Ok.known, c.in-Ok.ensures.found, c.in-Ok.ensures.kept, c.tell_eval.ensures)

pub returns-in-Err : goal.returns-in-Err
returns-in-Err c = inr (c.in-Err.ensures.refused, (refl, (refl, refl)))
