-- The table that was read, and what was judged by it.
use Rattle.std.proofs.Common.{inl, refl}
use Rattle.ffi.proofs.scripts.tell_verdict.Goals as goal

pub returns : goal.returns
returns c = inl (
  refl,
  (_, c.in-Ok.ensures.found, record { yes = c.in-Ok-judge.yes; told_is = c.bit.ensures; verdict = c.in-Ok-judge.ensures }),
  c.in-Ok.ensures.kept,
)
