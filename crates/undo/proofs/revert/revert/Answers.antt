use Rattle.std.proofs.Common.{List, ap, ◌∙◌}
use Rattle.std.specs.List.{zip}
use Rattle.std.specs.Map.{keys_of}
use Rattle.txn.specs.declared.output.TxOut.{TxOut}
use Rattle.txn.specs.Tx.{Tx}
use Rattle.coins.specs.Coins.{Coins}
use Rattle.undo.specs.Effect.{spends, spendable, without, with_coins}
use Rattle.undo.specs.laws.Reversal.{coins_before}
use Rattle.undo.proofs.Steps.{two_steps, to_coins}
use Rattle.undo.proofs.revert.revert.Goals as goal

pub returns : goal.returns
unfolding coins_before
returns g c =
    let l = c.args.layer in
    let left : List TxOut → Coins → Coins = λ os m. without m (keys_of (spendable c.args.id 0 os)) in
    let whole : Coins → Coins = λ m. with_coins m (zip (spends c.args.tx.now) c.args.spent.now) in
    two_steps (left c.as_slice.result.now) whole l c.take_all.new.layer c.return_inputs.new.layer c.in_ok-take_all.ensures.ok c.in_ok-return_inputs.ensures.ok
    ∙ to_coins l _ _ (ap (λ (os : List TxOut). whole (left os l.coins)) (c.as_slice.ensures ∙ ap (λ (t : Tx). t.outputs) c.tx.view_is))
