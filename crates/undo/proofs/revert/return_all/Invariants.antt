use Rattle.std.proofs.Common.{◌≡◌, drop}
use Rattle.std.specs.List.{zip}
use Rattle.txn.specs.Check.{prevs}
use Rattle.undo.specs.Effect.{with_coins}
use Rattle.undo.specs.laws.Reversal.{AreNew}
use Rattle.undo.proofs.revert.return_all.Given as goal

abbrev pub invariant-loop-index : goal.invariant-loop-index
invariant-loop-index g l = record {
  base : l.layer.base ≡ l.initial.layer.base;
  can : AreNew l.layer.coins (zip (prevs (drop l.index l.inputs)) (drop l.index l.spent));
  made : with_coins l.layer.coins (zip (prevs (drop l.index l.inputs)) (drop l.index l.spent)) ≡ with_coins l.initial.layer.coins (zip (prevs l.inputs) l.spent);
}
