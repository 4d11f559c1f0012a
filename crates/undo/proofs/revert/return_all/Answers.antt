use Rattle.std.proofs.Common.{◌≡◌, ◌+◌, drop, List, ◌∷◌, sym, ap, subst, ◌∙◌, arith}
use Rattle.std.specs.List.{zip}
use Rattle.std.specs.FinMap as coin_map
use Rattle.txn.specs.declared.input.TxIn.{TxIn}
use Rattle.txn.specs.Check.{prevs}
use Rattle.coins.specs.declared.coin.Coin.{Coin}
use Rattle.coins.specs.Coins.{Coins, Layer}
use Rattle.undo.specs.Effect.{with_coins}
use Rattle.undo.specs.laws.Reversal.{AreNew}
use Rattle.undo.specs.laws.Effects.{new_next}
use Rattle.undo.proofs.Steps.{drop_item}
use Rattle.undo.proofs.revert.return_all.Goals as goal

pub loop-index-preserved : goal.loop-index-preserved
loop-index-preserved g c =
    let m = c.loop-index.layer.coins in
    let xs = c.args.inputs.now in
    let ys = c.args.spent.now in
    let k = c.loop-index.index in
    let x = c.index-inputs-index.result in
    let y = c.index-spent-index.result in
    let rest = zip (prevs (drop (k + 1) xs)) (drop (k + 1) ys) in
    let ex : drop k xs ≡ x ∷ drop (k + 1) xs = drop_item xs k x (omega arith) c.index-inputs-index.is in
    let ey : drop k ys ≡ y ∷ drop (k + 1) ys = drop_item ys k y (omega arith) c.index-spent-index.is in
    let ok = c.in_ok-add.ensures.ok in
    let now : c.add.new.self.coins ≡ coin_map.insert m x.prev y =
    ap (λ (l : Layer). l.coins) ok
    ∙ ap (λ (i : TxIn). coin_map.insert m i.prev c.in_ok-copy.field-0) (sym c.index-inputs-index.is)
    ∙ ap (λ (z : Coin). coin_map.insert m x.prev z) c.in_ok-copy.ensures in
    let can : AreNew m ((x.prev, y) ∷ rest) = subst (λ (cs : List Coin). AreNew m (zip (prevs (x ∷ drop (k + 1) xs)) cs)) ey (subst (λ (is : List TxIn). AreNew m (zip (prevs is) (drop k ys))) ex c.loop-index.invariant.can) in
    record {
      base = ap (λ (l : Layer). l.base) ok ∙ c.loop-index.invariant.base;
      can = subst (λ (n : Coins). AreNew n rest) (sym now) (new_next m x.prev y rest can);
      made = ap (λ (n : Coins). with_coins n rest) now
          ∙ sym (ap (λ (is : List TxIn). with_coins m (zip (prevs is) (drop k ys))) ex ∙ ap (λ (cs : List Coin). with_coins m (zip (prevs (x ∷ drop (k + 1) xs)) cs)) ey)
          ∙ c.loop-index.invariant.made;
    }
