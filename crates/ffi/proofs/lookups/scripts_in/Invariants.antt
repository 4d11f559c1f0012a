-- What was told is of the transactions before this one.
use Rattle.std.proofs.Common.{◌≡◌, take}
use Rattle.ffi.specs.Lookups.{coin_scripts}
use Rattle.ffi.proofs.lookups.scripts_in.Given as goal

abbrev pub invariant-loop-spent : goal.invariant-loop-spent
invariant-loop-spent l = l.bytes.items ≡ coin_scripts (take l.spent-index l.txs)
