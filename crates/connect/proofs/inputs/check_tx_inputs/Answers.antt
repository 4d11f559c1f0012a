-- The coins that are taken are those that the transaction spends, and none of them is missing.
use Rattle.std.proofs.Common.{rules, ◌≡◌, true, false, length, not, is_some, Some, None, IfOk, IfErr, subst, sym, ap, ◌∙◌, arith}
use Rattle.txn.specs.First.{first_broken}
use Rattle.coins.specs.Coins.{Coins}
use Rattle.undo.specs.Effect.{spent_coins}
use Rattle.connect.specs.Faults.{input_rules, is_missing}
use Rattle.connect.specs.Turns.{turn, spent_in}
use Rattle.connect.specs.laws.Alone.{lawful_one}
use Rattle.connect.proofs.Whole.{fits}
use Rattle.connect.proofs.inputs.check_tx_inputs.Goals as goal

pub take_inputs-requires : goal.take_inputs-requires
take_inputs-requires g c = (lawful_one c.args.tx.now c.requires.alone c.requires.few).once

pub test_coins-requires-clause-few : goal.test_coins-requires-clause-few
test_coins-requires-clause-few g c =
    let tx = c.args.tx.now in
    let m = c.over.result.coins in
    let found : c.in-Some.spent ≡ spent_coins m tx = search rules in
    omega (arith, ap length c.as_slice.ensures, ap length found, fits m tx 0, c.requires.few)

pub returns-clause-fault : goal.returns-clause-fault
returns-clause-fault g c s same =
    let tx = c.args.tx.now in
    let m = c.over.result.coins in
    let some : is_some c.in_ok-_layer.field-0 ≡ true = search rules in
    let found : c.in-Some.spent ≡ spent_coins m tx = search rules in
    let there : is_missing (turn tx m 0) ≡ false = ap not (sym c.in_ok-_layer.ensures.all ∙ some) in
    subst (λ (n : Coins). IfErr c.test_coins.result (λ reason. first_broken (input_rules s (turn tx n 0)) ≡ Some reason)) c.over.ensures.coins
    (c.test_coins.ensures.fault s m same (c.as_slice.ensures ∙ found) there)

pub returns-clause-none : goal.returns-clause-none
returns-clause-none g c s same =
    let tx = c.args.tx.now in
    let m = c.over.result.coins in
    let some : is_some c.in_ok-_layer.field-0 ≡ true = search rules in
    let found : c.in-Some.spent ≡ spent_coins m tx = search rules in
    let there : is_missing (turn tx m 0) ≡ false = ap not (sym c.in_ok-_layer.ensures.all ∙ some) in
    subst (λ (n : Coins). IfOk c.test_coins.result (λ given. first_broken (input_rules s (turn tx n 0)) ≡ None)) c.over.ensures.coins
    (c.test_coins.ensures.none s m same (c.as_slice.ensures ∙ found) there)
