-- The rules are those of the bits.
use Rattle.std.proofs.Common.{sym}
use Rattle.ffi.proofs.named_failures.judge.Goals as goal

pub returns : goal.returns
returns g c = rw (sym c.flags_in-flags.ensures) c.verify_script.ensures
