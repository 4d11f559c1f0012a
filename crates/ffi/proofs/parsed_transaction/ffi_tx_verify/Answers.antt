-- The transaction that was in the slot is the one that is asked.
use Rattle.std.proofs.Common.{subst}
use Rattle.sighash.specs.declared.precomputed_tx.PrecomputedTx.{PrecomputedTx}
use Rattle.ffi.specs.ParsedTransaction.{AreInputsNamed, told_all}
use Rattle.ffi.proofs.parsed_transaction.ffi_tx_verify.Goals as goal

pub returns-clause-told : goal.returns-clause-told
returns-clause-told c =
    let before = told_all c.args.told.now c.args.asked.now in
    let after = told_all c.verify_all-code.new.told c.verify_all-code.new.asked in
    rw c.in-Some.ensures.value
    (subst (λ (t : PrecomputedTx). AreInputsNamed t.tx c.args.question.now before after c.verify_all-code.result)
    c.deref.ensures c.verify_all-code.ensures)
