-- The parts of a transaction as rows, with its scripts one after the other.
use Rattle.std.specs.Prelude.{◌≡◌, ◌≢◌, ℕ, ℤ, ◌+◌, ◌<◌, ◌⊎◌, ◌++◌, List, length, map, sum_by}
use Rattle.std.specs.List.{flat_map}
use Rattle.txn.specs.declared.input.TxIn.{TxIn}
use Rattle.txn.specs.declared.output.TxOut.{TxOut}
use Rattle.txn.specs.Tx.{Tx}
use Rattle.txn.specs.Grammar.{transaction}
use Rattle.ffi.specs.declared.shown.InputRow.{InputRow}
use Rattle.ffi.specs.declared.shown.OutputRow.{OutputRow}
use Rattle.ffi.specs.Room.{IsAtFront, IsCounted}

-- an input, and an output, with the length of its script in place of the script
abbrev pub input_row : TxIn → InputRow
input_row i = record { id = record { bytes = i.prev.id.0 }; script = length i.script; index = i.prev.index; sequence = i.sequence }

abbrev pub output_row : TxOut → OutputRow
output_row o = record { value = o.value; script = length o.script }

-- the scripts of the inputs, and then of the outputs
abbrev pub input_scripts : List TxIn → List ℕ
input_scripts inputs = flat_map (λ i. i.script) inputs

abbrev pub output_scripts : List TxOut → List ℕ
output_scripts outputs = flat_map (λ o. o.script) outputs

abbrev pub scripts_of : Tx → List ℕ
scripts_of tx = input_scripts tx.inputs ++ output_scripts tx.outputs

-- ---- read

-- a room has fewer places than the transaction has parts of its kind
abbrev pub IsTooSmall : Tx → List InputRow → List OutputRow → List ℕ → Type 0
IsTooSmall tx inputs outputs scripts =
    (length inputs < length tx.inputs) ⊎ ((length outputs < length tx.outputs) ⊎ (length scripts < length (scripts_of tx)))

-- all three rooms, before a call and after it
pub record ArePut (tx : Tx) (inputs inputs' : List InputRow) (outputs outputs' : List OutputRow) (scripts scripts' : List ℕ) : Type 0 where
  pub inputs_are : IsAtFront (map input_row tx.inputs) inputs inputs'
  pub outputs_are : IsAtFront (map output_row tx.outputs) outputs outputs'
  pub scripts_are : IsAtFront (scripts_of tx) scripts scripts'

-- ---- written

-- a transaction has these parts
pub record HasParts (tx : Tx) (version : ℤ) (lock_time : ℕ) (inputs : List InputRow) (outputs : List OutputRow) (scripts : List ℕ) : Type 0 where
  pub version_is : tx.version ≡ version
  pub lock_time_is : tx.lock_time ≡ lock_time
  pub inputs_are : map input_row tx.inputs ≡ inputs
  pub outputs_are : map output_row tx.outputs ≡ outputs
  pub scripts_are : scripts_of tx ≡ scripts

-- how many bytes the scripts of rows have
abbrev pub input_bytes : List InputRow → ℕ
input_bytes inputs = sum_by (λ row. row.script) inputs

abbrev pub output_bytes : List OutputRow → ℕ
output_bytes outputs = sum_by (λ row. row.script) outputs

-- The bytes of the transaction of these parts are told. There is none where the scripts have another length than the rows
-- say; there, and where memory ran out, nothing is written.
abbrev pub IsWritten : ℤ → ℕ → List InputRow → List OutputRow → List ℕ → List ℕ → List ℕ → ℕ → ℕ → ℕ → Type 0
IsWritten version lock_time inputs outputs scripts room bytes before count result =
    ((tx : Tx) × HasParts tx version lock_time inputs outputs scripts × IsCounted (transaction.spell tx) room bytes before count result)
    ⊎ ((((input_bytes inputs + output_bytes outputs ≢ length scripts) × (result ≡ 25)) ⊎ (result ≡ 1)) × (bytes ≡ room) × (count ≡ before))
