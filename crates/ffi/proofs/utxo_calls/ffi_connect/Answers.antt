-- The set that was in the slot is the one that changes, by the block that the bytes spell.
use Rattle.std.proofs.Common.{◌≡◌, Some, inl, subst}
use Rattle.ffi.specs.UtxoState.{UtxoState}
use Rattle.ffi.specs.Utxo.{IsConnectTold, setting_of}
use Rattle.ffi.proofs.utxo_calls.ffi_connect.Goals as goal

pub returns-in-Some-clause-told : goal.returns-in-Some-clause-told
returns-in-Some-clause-told c =
    rw c.in-Ok.ensures.exact (inl (rw c.in-Some.ensures.value
    (subst (λ (u : UtxoState). (next : UtxoState) × (c.put_utxo.new.slot.kept.value ≡ Some next)
    × IsConnectTold (setting_of c.args.setting.now) c.in-Ok.block c.args.fault.now c.connect_block-code.new.fault c.connect_block-code.result u next) c.deref_mut.ensures.value
    (_, c.put_utxo.ensures, c.connect_block-code.ensures))))
