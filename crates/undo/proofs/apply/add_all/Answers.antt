use Rattle.std.proofs.Common.{◌≡◌, ◌+◌, drop, cond, map, List, ◌∷◌, sym, ap, subst, ◌∙◌, arith}
use Rattle.std.specs.FinMap as coin_map
use Rattle.txn.specs.declared.outpoint.OutPoint.{OutPoint}
use Rattle.txn.specs.declared.output.TxOut.{TxOut}
use Rattle.script.specs.Kinds.{is_unspendable}
use Rattle.coins.specs.declared.coin.Coin.{Coin}
use Rattle.coins.specs.Coins.{Coins, Layer}
use Rattle.undo.specs.Effect.{outpoint_at, spendable, coin_of, with_coins}
use Rattle.undo.specs.laws.Reversal.{AreNew}
use Rattle.undo.proofs.Steps.{drop_item, made_rest, made_same}
use Rattle.undo.proofs.apply.add_all.Goals as goal

pub loop-place-preserved : goal.loop-place-preserved
loop-place-preserved g c =
    let m = c.loop-place.layer.coins in
    let id = c.args.id in
    let h = c.args.height in
    let cb = c.args.coinbase in
    let xs = c.args.outputs.now in
    let k = c.loop-place.place in
    let o = c.index-outputs-place.result in
    let b = is_unspendable o.script in
    let made : List (OutPoint × TxOut) → List (OutPoint × Coin) = λ es. map (λ x. (x.0, coin_of h cb x.1)) es in
    let rest = spendable id (k + 1) (drop (k + 1) xs) in
    let item : drop k xs ≡ o ∷ drop (k + 1) xs = drop_item xs k o (omega arith) c.index-outputs-place.is in
    let ok = c.in_ok-add_one.ensures.ok in
    let now : c.add_one.new.layer.coins ≡ cond b m (coin_map.insert m (outpoint_at id k) (coin_of h cb o)) = ap (λ (l : Layer). l.coins) ok in
    let can = subst (λ (os : List TxOut). AreNew m (made (spendable id k os))) item c.loop-place.invariant.can in
    record {
      base = ap (λ (l : Layer). l.base) ok ∙ c.loop-place.invariant.base;
      can = subst (λ (n : Coins). AreNew n (made rest)) (sym now) (made_rest b m h cb (outpoint_at id k) o rest can);
      made = ap (λ (n : Coins). with_coins n (made rest)) now ∙ made_same b m h cb (outpoint_at id k) o rest
          ∙ sym (ap (λ (os : List TxOut). with_coins m (made (spendable id k os))) item) ∙ c.loop-place.invariant.made;
    }
