use Rattle.std.proofs.Common.{rules, ◌≡◌, true, cond, List, [], sym, ap, ◌∙◌}
use Rattle.txn.specs.declared.outpoint.OutPoint.{OutPoint}
use Rattle.txn.specs.Check.{is_coinbase, prevs}
use Rattle.undo.specs.Effect.{coins_at, spent_coins}
use Rattle.undo.proofs.apply.take_inputs.Goals as goal

pub returns-then-is_coinbase-clause-spent : goal.returns-then-is_coinbase-clause-spent
unfolding spent_coins
returns-then-is_coinbase-clause-spent g c =
    let tx = c.args.tx.now in
    let first : is_coinbase tx ≡ true = sym c.is_coinbase.ensures.test ∙ c.if-is_coinbase.true in
    let none : List OutPoint = [] in
    c.new.ensures ∙ sym (ap (λ b. coins_at c.args.layer.coins (cond b none (prevs tx.inputs))) first)

pub returns-clause-spent : goal.returns-clause-spent
unfolding spent_coins
returns-clause-spent g c = search rules
