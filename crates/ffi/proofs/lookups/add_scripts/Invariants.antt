-- What was told is of the coins before this one.
use Rattle.std.proofs.Common.{◌≡◌, ◌++◌, take}
use Rattle.std.specs.List.{flat_map}
use Rattle.ffi.proofs.lookups.add_scripts.Given as goal

abbrev pub invariant-loop-coin : goal.invariant-loop-coin
invariant-loop-coin l = l.bytes.items ≡ l.fn.bytes.items ++ flat_map (λ coin. coin.script) (take l.coin-index l.coins)
