-- A transaction but for its version, as a call returns it.
use Rattle.std.specs.Prelude.{◌≡◌, ℕ, List, Result, Ok, Err, IfSome}
use Rattle.wire.specs.declared.fault.WireFault.{WireFault}
use Rattle.txn.specs.declared.fault.TxFault.{TxFault}
use Rattle.txn.specs.declared.witness_decode.TxBody.{TxBody}
use Rattle.txn.specs.Fault.{wire_fault_of}
use Rattle.txn.specs.WitnessGrammar.{Body}

abbrev pub body_of : TxBody → Body
body_of b = (b.inputs.list, (b.outputs, (b.inputs.witnesses, b.lock_time)))

-- what a call returned and left is what reading gives
abbrev pub BodyGives : Result TxBody TxFault → List ℕ → Result (Body × List ℕ) WireFault → Type 0
BodyGives (Ok b) new read = read ≡ Ok (body_of b, new)
BodyGives (Err e) new read = IfSome (wire_fault_of e) (λ fault. read ≡ Err fault)
