use Rattle.std.proofs.Common.{◌≡◌, drop, map}
use Rattle.undo.specs.Effect.{spendable, coin_of, with_coins}
use Rattle.undo.specs.laws.Reversal.{AreNew}
use Rattle.undo.proofs.apply.add_all.Given as goal

abbrev pub invariant-loop-place : goal.invariant-loop-place
invariant-loop-place g l = record {
  base : l.layer.base ≡ l.initial.layer.base;
  can : AreNew l.layer.coins (map (λ x. (x.0, coin_of l.height l.coinbase x.1)) (spendable l.id l.place (drop l.place l.outputs)));
  made : with_coins l.layer.coins (map (λ x. (x.0, coin_of l.height l.coinbase x.1)) (spendable l.id l.place (drop l.place l.outputs)))
      ≡ with_coins l.initial.layer.coins (map (λ x. (x.0, coin_of l.height l.coinbase x.1)) (spendable l.id 0 l.outputs));
}
