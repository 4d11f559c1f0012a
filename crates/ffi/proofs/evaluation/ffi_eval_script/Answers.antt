-- The input is there, and so is the stack.
use Rattle.std.proofs.Common.{inl, sym, ap, ◌∙◌, length, arith}
use Rattle.txn.specs.Tx.{Tx}
use Rattle.txn.specs.computed.Reader.{tx_at}
use Rattle.ffi.proofs.ToldPart.{told_at}
use Rattle.ffi.proofs.evaluation.ffi_eval_script.Goals as goal

pub returns : goal.returns
returns c =
    let there = rw c.in-Ok-Some.field-0-is at c.in-Ok-Some.ensures.found in
    told_at _ c.in-Ok.tx _ _ _ _ (ap tx_at (sym c.new-cursor.ensures) ∙ c.in-Ok.ensures.found)
    (inl (omega (arith, ap (λ (t : Tx). length t.inputs) c.tx.view_is), inl (c.in-Ok-Some.stack, there.0, there.1, c.tell_by_tables.ensures)))
