use Rattle.std.proofs.Common.{◌≡◌, ◌++◌, drop}
use Rattle.std.specs.List.{IsDistinct, list_all}
use Rattle.txn.specs.Check.{prevs}
use Rattle.coins.specs.Coins.{same}
use Rattle.undo.specs.Effect.{without, coins_at}
use Rattle.undo.proofs.Steps.{there}
use Rattle.undo.proofs.apply.take_each.Given as goal

abbrev pub invariant-loop-input : goal.invariant-loop-input
invariant-loop-input g l = record {
  base : l.layer.base ≡ l.initial.layer.base;
  once : IsDistinct same (prevs (drop l.input-index l.inputs));
  all : list_all (there l.layer.coins) (prevs (drop l.input-index l.inputs)) ≡ list_all (there l.initial.layer.coins) (prevs l.inputs);
  spent : l.spent ++ coins_at l.layer.coins (prevs (drop l.input-index l.inputs)) ≡ coins_at l.initial.layer.coins (prevs l.inputs);
  left : without l.layer.coins (prevs (drop l.input-index l.inputs)) ≡ without l.initial.layer.coins (prevs l.inputs);
}
