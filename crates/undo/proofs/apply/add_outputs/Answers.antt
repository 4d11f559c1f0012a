use Rattle.std.proofs.Common.{Bool, List, map, sym, ap, subst, ◌∙◌}
use Rattle.txn.specs.declared.output.TxOut.{TxOut}
use Rattle.txn.specs.Tx.{Tx}
use Rattle.txn.specs.declared.outpoint.OutPoint.{OutPoint}
use Rattle.coins.specs.declared.coin.Coin.{Coin}
use Rattle.coins.specs.Coins.{Coins}
use Rattle.undo.specs.Effect.{spends, spendable, coin_of, without, with_coins, after}
use Rattle.undo.specs.laws.Reversal.{AreNew}
use Rattle.undo.specs.laws.RoundTrip.{are_new}
use Rattle.undo.proofs.Steps.{to_coins}
use Rattle.undo.proofs.apply.add_outputs.Goals as goal

pub add_all-requires-clause-new : goal.add_all-requires-clause-new
add_all-requires-clause-new g c =
    let tx = c.args.tx.now in
    let before = c.requires.0 in
    let made : Bool → List TxOut → List (OutPoint × Coin) = λ cb os. map (λ o. (o.0, coin_of c.args.height cb o.1)) (spendable c.args.id 0 os) in
    subst (λ (m : Coins). AreNew m (made c.is_coinbase.result c.as_slice.result.now)) (sym c.requires.2)
    (subst (λ (os : List TxOut). AreNew (without before (spends tx)) (made c.is_coinbase.result os)) (sym (c.as_slice.ensures ∙ ap (λ (t : Tx). t.outputs) c.tx.view_is))
    (subst (λ (cb : Bool). AreNew (without before (spends tx)) (made cb tx.outputs)) (sym c.is_coinbase.ensures.test)
    (are_new before tx c.args.id c.args.height c.requires.1)))

pub returns : goal.returns
unfolding after
returns g c = λ before can now.
    let l = c.args.layer in
    let tx = c.args.tx.now in
    let made : Bool → List TxOut → List (OutPoint × Coin) = λ cb os. map (λ o. (o.0, coin_of c.args.height cb o.1)) (spendable c.args.id 0 os) in
    c.in_ok-add_all.ensures.ok
    ∙ to_coins l _ _ (ap (λ (m : Coins). with_coins m (made c.is_coinbase.result c.as_slice.result.now)) now
    ∙ ap (λ (os : List TxOut). with_coins (without before (spends tx)) (made c.is_coinbase.result os)) (c.as_slice.ensures ∙ ap (λ (t : Tx). t.outputs) c.tx.view_is)
    ∙ ap (λ (cb : Bool). with_coins (without before (spends tx)) (made cb tx.outputs)) c.is_coinbase.ensures.test)
