-- The set that was in the slot is the one that changes.
use Rattle.std.proofs.Common.{◌≡◌, Some, subst}
use Rattle.ffi.specs.UtxoState.{IsTakenBack, UtxoState}
use Rattle.ffi.proofs.utxo_calls.ffi_disconnect.Goals as goal

pub returns : goal.returns
returns c =
    rw c.in-Some.ensures.value
    (subst (λ (u : UtxoState). (next : UtxoState) × (c.put_utxo.new.slot.kept.value ≡ Some next) × IsTakenBack u u.last next c.disconnect-code.result) c.deref_mut.ensures.value
    (_, c.put_utxo.ensures, c.disconnect-code.ensures))
