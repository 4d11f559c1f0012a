use Rattle.std.proofs.Common.{◌≡◌}
use Rattle.vectors.proofs.coins_vectors.LayerRun.turns.Given as goal

abbrev pub invariant-loop : goal.invariant-loop
invariant-loop g l = l.layer.base ≡ l.initial.layer.base
