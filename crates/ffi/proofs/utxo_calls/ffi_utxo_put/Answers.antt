-- The set that was in the slot is the one that changes.
use Rattle.std.proofs.Common.{◌≡◌, Some, subst}
use Rattle.ffi.specs.UtxoState.{UtxoState}
use Rattle.ffi.specs.Answers.{outpoint_of}
use Rattle.ffi.specs.Utxo.{IsPut, coin_of}
use Rattle.ffi.proofs.utxo_calls.ffi_utxo_put.Goals as goal

pub returns : goal.returns
returns c =
    rw c.in-Some.ensures.value
    (subst (λ (u : UtxoState). (next : UtxoState) × (c.put_utxo.new.slot.kept.value ≡ Some next) × IsPut (outpoint_of c.args.at.now) (coin_of c.args.coin.now c.args.script.now) u next c.put_coin-code.result) c.deref_mut.ensures.value
    (_, c.put_utxo.ensures, c.put_coin-code.ensures))
