-- What was told is of the coins before this one.
use Rattle.std.proofs.Common.{◌≡◌, ◌++◌, map, take}
use Rattle.ffi.specs.Answers.{coin_row}
use Rattle.ffi.proofs.lookups.add_rows.Given as goal

abbrev pub invariant-loop-coin : goal.invariant-loop-coin
invariant-loop-coin l = l.rows.items ≡ l.fn.rows.items ++ map coin_row (take l.coin-index l.coins)
