use Rattle.std.proofs.Common.{◌≡◌, drop}
use Rattle.std.specs.Map.{keys_of}
use Rattle.undo.specs.Effect.{spendable, without}
use Rattle.undo.specs.laws.Reversal.{AreCoins}
use Rattle.undo.proofs.revert.take_all.Given as goal

abbrev pub invariant-loop-place : goal.invariant-loop-place
invariant-loop-place g l = record {
  base : l.layer.base ≡ l.initial.layer.base;
  can : AreCoins l.layer.coins (keys_of (spendable l.id l.place (drop l.place l.outputs)));
  left : without l.layer.coins (keys_of (spendable l.id l.place (drop l.place l.outputs))) ≡ without l.initial.layer.coins (keys_of (spendable l.id 0 l.outputs));
}
