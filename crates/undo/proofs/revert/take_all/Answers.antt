use Rattle.std.proofs.Common.{◌≡◌, ◌+◌, drop, cond, List, ◌∷◌, sym, ap, subst, ◌∙◌, arith}
use Rattle.std.specs.Map.{keys_of}
use Rattle.std.specs.FinMap as coin_map
use Rattle.txn.specs.declared.output.TxOut.{TxOut}
use Rattle.script.specs.Kinds.{is_unspendable}
use Rattle.coins.specs.Coins.{Coins, Layer}
use Rattle.undo.specs.Effect.{outpoint_at, spendable, without}
use Rattle.undo.specs.laws.Reversal.{AreCoins}
use Rattle.undo.proofs.Steps.{drop_item, gone_rest, gone_same}
use Rattle.undo.proofs.revert.take_all.Goals as goal

pub loop-place-preserved : goal.loop-place-preserved
loop-place-preserved g c =
    let m = c.loop-place.layer.coins in
    let id = c.args.id in
    let xs = c.args.outputs.now in
    let k = c.loop-place.place in
    let o = c.index-outputs-place.result in
    let b = is_unspendable o.script in
    let rest = spendable id (k + 1) (drop (k + 1) xs) in
    let item : drop k xs ≡ o ∷ drop (k + 1) xs = drop_item xs k o (omega arith) c.index-outputs-place.is in
    let ok = c.in_ok-take_one.ensures.ok in
    let now : c.take_one.new.layer.coins ≡ cond b m (coin_map.remove m (outpoint_at id k)) = ap (λ (l : Layer). l.coins) ok in
    let can = subst (λ (os : List TxOut). AreCoins m (keys_of (spendable id k os))) item c.loop-place.invariant.can in
    record {
      base = ap (λ (l : Layer). l.base) ok ∙ c.loop-place.invariant.base;
      can = subst (λ (n : Coins). AreCoins n (keys_of rest)) (sym now) (gone_rest b m (outpoint_at id k) o rest can);
      left = ap (λ (n : Coins). without n (keys_of rest)) now ∙ gone_same b m (outpoint_at id k) o rest
          ∙ sym (ap (λ (os : List TxOut). without m (keys_of (spendable id k os))) item) ∙ c.loop-place.invariant.left;
    }
