-- The set that was in the slot is the one that changes.
use Rattle.std.proofs.Common.{◌≡◌, Some, subst}
use Rattle.std.specs.Prelude.{◌==◌, not}
use Rattle.ffi.specs.UtxoState.{IsLearnt, UtxoState, known_by}
use Rattle.signatures.specs.Triple.{triple_of}
use Rattle.ffi.proofs.utxo_calls.ffi_utxo_learn.Goals as goal

pub returns : goal.returns
returns c =
    rw c.in-Some.ensures.value
    (subst (λ (u : UtxoState). (next : UtxoState) × (c.put_utxo.new.slot.kept.value ≡ Some next) × IsLearnt u next (triple_of c.args.key.now c.args.signature.now c.args.digest.now.bytes) (not (c.args.valid == 0)) (known_by u (triple_of c.args.key.now c.args.signature.now c.args.digest.now.bytes)) c.learn-code.result) c.deref_mut.ensures.value
    (_, c.put_utxo.ensures, c.learn-code.ensures))
