use Rattle.std.proofs.Common.{◌≡◌, ◌+◌, drop, Option, Some, None, sym, ap, ◌∙◌, arith}
use Rattle.std.specs.List.{flat_map}
use Rattle.std.specs.Option.{option_or}
use Rattle.txn.specs.declared.reason.Reason.{Reason}
use Rattle.txn.specs.Check.{tx_rules}
use Rattle.txn.specs.First.{first_broken}
use Rattle.rules.proofs.FirstBroken.{next}
use Rattle.rules.proofs.alone.broken_tx.Goals as goal

pub returns-in-Some : goal.returns-in-Some
returns-in-Some c =
    let i = c.loop-tx.tx-index in
    let found : first_broken (tx_rules c.tx-item.result) ≡ Some c.in-Some.reason = sym c.in_ok-reason.ensures.found ∙ c.in-Some.is in
    let rest : Option Reason = first_broken (flat_map tx_rules (drop (i + 1) c.args.txs.now)) in
    sym (c.loop-tx.invariant ∙ next c.args.txs.now i c.tx-item.result (omega arith) c.tx-item.is ∙ ap (λ (o : Option Reason). option_or o rest) found)

pub loop-tx-preserved : goal.loop-tx-preserved
loop-tx-preserved c =
    let i = c.loop-tx.tx-index in
    let none : first_broken (tx_rules c.tx-item.result) ≡ None = sym c.in_ok-reason.ensures.found ∙ c.in_default.is in
    let rest : Option Reason = first_broken (flat_map tx_rules (drop (i + 1) c.args.txs.now)) in
    c.loop-tx.invariant ∙ next c.args.txs.now i c.tx-item.result (omega arith) c.tx-item.is ∙ ap (λ (o : Option Reason). option_or o rest) none
