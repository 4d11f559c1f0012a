use Rattle.std.proofs.Common.{◌≡◌, map, take}
use Rattle.connect.specs.Faults.{lock_start}
use Rattle.connect.proofs.turn.lock_starts.Given as goal

abbrev pub invariant-loop-coin : goal.invariant-loop-coin
invariant-loop-coin l = l.starts.items ≡ map (lock_start l.medians) (take l.coin-index l.coins)
