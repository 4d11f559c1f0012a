use Rattle.std.proofs.Common.{◌≡◌}
use Rattle.player.proofs.chainstates.lay.Given as goal

abbrev pub invariant-loop : goal.invariant-loop
invariant-loop g l = l.coins ≡ l.initial.coins
