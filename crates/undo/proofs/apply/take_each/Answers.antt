use Rattle.std.proofs.Common.{◌≡◌, ◌+◌, drop, List, [], ◌∷◌, ◌++◌, Some, sym, ap, subst, ◌∙◌, arith}
use Rattle.std.specs.FinMap as coin_map
use Rattle.std.specs.List.{IsDistinct, list_all}
use Rattle.std.proofs.lemmas.List.{append_assoc}
use Rattle.txn.specs.declared.input.TxIn.{TxIn}
use Rattle.txn.specs.Check.{prevs}
use Rattle.coins.specs.declared.coin.Coin.{Coin}
use Rattle.coins.specs.Coins.{Coins, Layer, same}
use Rattle.undo.specs.Effect.{without, coins_at}
use Rattle.undo.proofs.Steps.{drop_item, there, taken-next, there-next, once-next}
use Rattle.undo.proofs.apply.take_each.Goals as goal

pub loop-input-preserved : goal.loop-input-preserved
loop-input-preserved g c =
    let m = c.loop-input.layer.coins in
    let xs = c.args.inputs.now in
    let i = c.loop-input.input-index in
    let x = c.input-item.result in
    let ps = prevs (drop (i + 1) xs) in
    let item : drop i xs ≡ x ∷ drop (i + 1) xs = drop_item xs i x (omega arith) c.input-item.is in
    let ok = c.in_ok-coin.ensures.ok in
    let now : c.take.new.self.coins ≡ coin_map.remove m x.prev = ap (λ (l : Layer). l.coins) ok in
    let once = subst (λ (is : List TxIn). IsDistinct same (prevs is)) item c.loop-input.invariant.once in
    let coin = c.in-Some.coin in
    let here : coin_map.get m x.prev ≡ Some coin = sym c.in_ok-coin.ensures.coin ∙ c.in-Some.is in
    record {
      base = ap (λ (l : Layer). l.base) ok ∙ c.loop-input.invariant.base;
      once = once-next x.prev ps once;
      all = ap (λ (n : Coins). list_all (there n) ps) now
          ∙ sym (ap (λ (is : List TxIn). list_all (there m) (prevs is)) item ∙ there-next m x.prev ps coin once here)
          ∙ c.loop-input.invariant.all;
      spent = ap (λ (s : List Coin). s ++ coins_at c.take.new.self.coins ps) c.in_ok-push.ensures.ok
          ∙ append_assoc c.loop-input.spent (coin ∷ []) (coins_at c.take.new.self.coins ps)
          ∙ ap (λ (n : Coins). c.loop-input.spent ++ (coin ∷ coins_at n ps)) now
          ∙ ap (λ (s : List Coin). c.loop-input.spent ++ s) (sym (ap (λ (is : List TxIn). coins_at m (prevs is)) item ∙ taken-next m x.prev ps coin once here))
          ∙ c.loop-input.invariant.spent;
      left = ap (λ (n : Coins). without n ps) now ∙ sym (ap (λ (is : List TxIn). without m (prevs is)) item) ∙ c.loop-input.invariant.left;
    }
