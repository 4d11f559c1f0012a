use Rattle.std.proofs.Common.{◌≡◌, ◌++◌, take}
use Rattle.undo.proofs.packed_coins.PackedCoins.add.Given as goal

abbrev pub invariant-loop-coin : goal.invariant-loop-coin
invariant-loop-coin l = l.self ≡ l.initial.self ++ take l.coin-index l.coins
