use Rattle.std.proofs.Common.{rules, ◌≡◌, to_z, of_z, ap, ◌∙◌, arith}
use Rattle.std.specs.Int.{w128}
use Rattle.std.proofs.lemmas.Int.{ints, to_z-of_z}
use Rattle.txn.specs.Tx.{Tx}
use Rattle.txn.specs.Check.{total}
use Rattle.coins.specs.Coins.{sum_of_values}
use Rattle.connect.specs.BlockContext.{setting}
use Rattle.connect.specs.Turns.{turn, spent_in}
use Rattle.connect.specs.laws.Broken.{UpToAge, at_early, at_amount}
use Rattle.connect.proofs.Turns.{early_is, amount_is}
use Rattle.connect.proofs.turn.test_amount.Goals as goal

pub returns-then-has_immature-clause-fault : goal.returns-then-has_immature-clause-fault
returns-then-has_immature-clause-fault c m n found =
    let s = setting c.args.context.now in
    let early = early_is s c.args.tx.now m n found.few c.args.coins.now c.has_immature.result found.lent c.has_immature.ensures in
    at_early s (turn c.args.tx.now m n) found.up_to_coins (early ∙ c.if-has_immature.true)

pub returns-then-pays_too_much-clause-fault : goal.returns-then-pays_too_much-clause-fault
returns-then-pays_too_much-clause-fault c m n found =
    let s = setting c.args.context.now in
    let tx = c.args.tx.now in
    let t = turn tx m n in
    let early = early_is s tx m n found.few c.args.coins.now c.has_immature.result found.lent c.has_immature.ensures in
    let age : UpToAge s t = record { coins = found.up_to_coins; aged = early ∙ c.if-has_immature.false } in
    let worth : to_z w128 (of_z w128 c.worth-worth.result) ≡ sum_of_values (spent_in t) = to_z-of_z w128 c.worth-worth.result (search rules) ∙ c.worth-worth.ensures.sum ∙ ap sum_of_values found.lent in
    let paid : to_z w128 (of_z w128 c.paid-paid.result) ≡ total tx.outputs = to_z-of_z w128 c.paid-paid.result (search rules) ∙ c.paid-paid.ensures.sum ∙ ap total (c.as_slice.ensures ∙ ap (λ (x : Tx). x.outputs) c.tx.view_is) in
    let amount = amount_is s tx m n found.few (to_z w128 (of_z w128 c.worth-worth.result)) (to_z w128 (of_z w128 c.paid-paid.result)) c.pays_too_much.result worth paid c.pays_too_much.ensures in
    at_amount s t age (amount ∙ c.if-pays_too_much.true)

pub returns-clause-enough : goal.returns-clause-enough
returns-clause-enough c m n found =
    let s = setting c.args.context.now in
    let tx = c.args.tx.now in
    let t = turn tx m n in
    let early = early_is s tx m n found.few c.args.coins.now c.has_immature.result found.lent c.has_immature.ensures in
    let age : UpToAge s t = record { coins = found.up_to_coins; aged = early ∙ c.if-has_immature.false } in
    let worth : to_z w128 (of_z w128 c.worth-worth.result) ≡ sum_of_values (spent_in t) = to_z-of_z w128 c.worth-worth.result (search rules) ∙ c.worth-worth.ensures.sum ∙ ap sum_of_values found.lent in
    let paid : to_z w128 (of_z w128 c.paid-paid.result) ≡ total tx.outputs = to_z-of_z w128 c.paid-paid.result (search rules) ∙ c.paid-paid.ensures.sum ∙ ap total (c.as_slice.ensures ∙ ap (λ (x : Tx). x.outputs) c.tx.view_is) in
    let amount = amount_is s tx m n found.few (to_z w128 (of_z w128 c.worth-worth.result)) (to_z w128 (of_z w128 c.paid-paid.result)) c.pays_too_much.result worth paid c.pays_too_much.ensures in
    record { age = age; enough = amount ∙ c.if-pays_too_much.false }

pub returns-clause-fee : goal.returns-clause-fee
returns-clause-fee c m n found =
    let t = turn c.args.tx.now m n in
    let worth : to_z w128 (of_z w128 c.worth-worth.result) ≡ sum_of_values (spent_in t) = to_z-of_z w128 c.worth-worth.result (search rules) ∙ c.worth-worth.ensures.sum ∙ ap sum_of_values found.lent in
    let paid : to_z w128 (of_z w128 c.paid-paid.result) ≡ total c.args.tx.now.outputs = to_z-of_z w128 c.paid-paid.result (search rules) ∙ c.paid-paid.ensures.sum ∙ ap total (c.as_slice.ensures ∙ ap (λ (x : Tx). x.outputs) c.tx.view_is) in
    omega (arith, ints, worth, paid)
