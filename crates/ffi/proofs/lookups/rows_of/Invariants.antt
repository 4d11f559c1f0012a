-- What was told is of the transactions before this one.
use Rattle.std.proofs.Common.{◌≡◌, take}
use Rattle.ffi.specs.Lookups.{coin_rows}
use Rattle.ffi.proofs.lookups.rows_of.Given as goal

abbrev pub invariant-loop-spent : goal.invariant-loop-spent
invariant-loop-spent l = l.rows.items ≡ coin_rows (take l.spent-index l.txs)
