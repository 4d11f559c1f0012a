-- Transactions whose counts and lengths can be read again.
use Rattle.std.specs.Prelude.{◌≡◌, ◌⊎◌, ◌≤◌, List, [], length, Bool, true, false}
use Rattle.std.specs.List.{All}
use Rattle.wire.specs.Numbers.{limit}
use Rattle.txn.specs.declared.input.TxIn.{TxIn}
use Rattle.txn.specs.declared.output.TxOut.{TxOut}
use Rattle.txn.specs.Tx.{Tx, Witness}
use Rattle.txn.specs.WitnessGrammar.{has_witness}

-- not too many inputs, and no script among them is too long
abbrev pub AreInputsWithin : List TxIn → Type 0
AreInputsWithin inputs = (length inputs ≤ limit) × All (λ i. length i.script ≤ limit) inputs

-- the same of outputs
abbrev pub AreOutputsWithin : List TxOut → Type 0
AreOutputsWithin outputs = (length outputs ≤ limit) × All (λ o. length o.script ≤ limit) outputs

-- no witness either: this spelling has none
abbrev pub IsWithinLimits : Tx → Type 0
IsWithinLimits t = AreInputsWithin t.inputs × AreOutputsWithin t.outputs × (t.witnesses ≡ [])

-- not too many strings, and none is too long
abbrev pub IsWitnessWithin : Witness → Type 0
IsWitnessWithin strings = (length strings ≤ limit) × All (λ s. length s ≤ limit) strings

-- none, or one for each input, of which one isn't empty
abbrev pub AreWitnessesWithin : List TxIn → List Witness → Type 0
AreWitnessesWithin inputs witnesses =
    (witnesses ≡ [])
    ⊎ ((has_witness witnesses ≡ true) × (length witnesses ≡ length inputs) × All IsWitnessWithin witnesses)

-- by BIP 144, where nothing without inputs has outputs, or without witnesses
abbrev pub IsWithinLimitsBy : Bool → Tx → Type 0
IsWithinLimitsBy false t = IsWithinLimits t
IsWithinLimitsBy true t =
    AreInputsWithin t.inputs × AreOutputsWithin t.outputs × AreWitnessesWithin t.inputs t.witnesses
    × (t.inputs ≡ [] → t.outputs ≡ [])
