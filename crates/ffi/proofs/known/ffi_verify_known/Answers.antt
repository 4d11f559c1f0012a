-- The input is there, and is judged by what both tables say.
use Rattle.std.proofs.Common.{inl, sym, ap, ◌∙◌, length, arith}
use Rattle.txn.specs.Tx.{Tx}
use Rattle.txn.specs.computed.Reader.{tx_at}
use Rattle.ffi.proofs.ToldPart.{told_at}
use Rattle.ffi.proofs.known.ffi_verify_known.Goals as goal

pub returns : goal.returns
returns c = told_at _ c.in-Ok.tx _ _ _ _ (ap tx_at (sym c.new-cursor.ensures) ∙ c.in-Ok.ensures.found)
    (inl (omega (arith, ap (λ (t : Tx). length t.inputs) c.tx.view_is), inl (c.in-Ok-known_of.known, c.in-Ok-known_of.ensures.found, c.in-Ok-known_of.ensures.kept, c.tell_found.ensures)))
