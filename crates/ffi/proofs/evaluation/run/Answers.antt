-- The rules are those of the bits.
use Rattle.std.proofs.Common.{sym}
use Rattle.ffi.proofs.evaluation.run.Goals as goal

pub returns : goal.returns
returns c = rw (sym c.flags_in-flags.ensures) c.eval_script.ensures
