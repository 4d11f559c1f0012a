-- The input is there, and is judged by what both tables say; or there is none.
use Rattle.std.proofs.Common.{inl, inr, refl, ap, length, arith}
use Rattle.sighash.specs.declared.precomputed_tx.PrecomputedTx.{PrecomputedTx}
use Rattle.ffi.proofs.parsed_transaction.verify_input.Goals as goal

pub returns-then-question-len : goal.returns-then-question-len
returns-then-question-len c =
    inr (λ lt. omega (arith, lt, ap (λ (k : PrecomputedTx). length k.tx.inputs) c.kept.view_is), refl, (refl, (refl, refl)))

pub returns-in-Err : goal.returns-in-Err
returns-in-Err c =
    inl (omega (arith, ap (λ (k : PrecomputedTx). length k.tx.inputs) c.kept.view_is), inr (c.in-Err.ensures.refused, (refl, refl)))

pub returns-in-Ok : goal.returns-in-Ok
returns-in-Ok c =
    inl (omega (arith, ap (λ (k : PrecomputedTx). length k.tx.inputs) c.kept.view_is), inl (c.in-Ok.known, c.in-Ok.ensures.found, c.in-Ok.ensures.kept, c.tell_failure.ensures _ c.verify_kept-found.ensures))
