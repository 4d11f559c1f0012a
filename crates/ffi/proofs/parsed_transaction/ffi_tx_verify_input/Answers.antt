-- The transaction that was in the slot is the one that is asked.
use Rattle.std.proofs.Common.{subst}
use Rattle.signatures.specs.Lines.{lines}
use Rattle.sighash.specs.declared.precomputed_tx.PrecomputedTx.{PrecomputedTx}
use Rattle.ffi.specs.NamedFailures.{IsInputNamed, told_of}
use Rattle.ffi.proofs.parsed_transaction.ffi_tx_verify_input.Goals as goal

pub returns-clause-told : goal.returns-clause-told
returns-clause-told c =
    let q = c.args.question.now in
    let before = told_of c.args.told.now.line c.args.told.now.error c.args.asked.now c.args.told.now.count in
    let told = c.verify_input-code.new.told in
    let after = told_of told.line told.error c.verify_input-code.new.asked told.count in
    rw c.in-Some.ensures.value
    (subst (λ (t : PrecomputedTx). IsInputNamed t.tx q.input q.spent.now q.flags (lines q.valid.now) (lines q.invalid.now) before after c.verify_input-code.result)
    c.deref.ensures c.verify_input-code.ensures)
