-- Whether two parts of transactions are equal, field by field.
use Rattle.std.specs.Prelude.{ℕ, ◌==◌, ◌&&◌, Bool, List}
use Rattle.std.specs.Ordering.{int_eq}
use lib.Pointwise.{pointwise}
use Rattle.hash.specs.Id.{same_id}
use Rattle.txn.specs.declared.outpoint.OutPoint.{OutPoint}
use Rattle.txn.specs.declared.input.TxIn.{TxIn}
use Rattle.txn.specs.declared.input.Inputs.{Inputs}
use Rattle.txn.specs.declared.output.TxOut.{TxOut}
use Rattle.txn.specs.Tx.{Tx}

abbrev pub same_outpoint : OutPoint → OutPoint → Bool
same_outpoint a b = same_id a.id b.id && (a.index == b.index)

abbrev pub same_script : List ℕ → List ℕ → Bool
same_script = pointwise ◌==◌

abbrev pub same_input : TxIn → TxIn → Bool
same_input a b = same_outpoint a.prev b.prev && same_script a.script b.script && (a.sequence == b.sequence)

abbrev pub same_output : TxOut → TxOut → Bool
same_output a b = int_eq a.value b.value && same_script a.script b.script

abbrev pub same_witness : List (List ℕ) → List (List ℕ) → Bool
same_witness = pointwise same_script

abbrev pub same_inputs : Inputs → Inputs → Bool
same_inputs a b = pointwise same_input a.list b.list && pointwise same_witness a.witnesses b.witnesses

abbrev pub same_outputs : List TxOut → List TxOut → Bool
same_outputs = pointwise same_output

-- the inputs of a transaction, with its witnesses
abbrev pub inputs_of : Tx → Inputs
inputs_of t = record { list = t.inputs; witnesses = t.witnesses }

abbrev pub same_tx : Tx → Tx → Bool
same_tx a b = int_eq a.version b.version && same_inputs (inputs_of a) (inputs_of b) && same_outputs a.outputs b.outputs && (a.lock_time == b.lock_time)
