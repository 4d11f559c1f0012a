-- The tests for equality pass exactly what is equal.
use Rattle.std.proofs.Common.{◌≡◌, ℕ, List, ap}
use Rattle.std.specs.Prelude.{Decides}
use Rattle.std.proofs.lemmas.Bool.Decides.{Decides-eqb, Decides-int_eq, Decides-and, Decides-like}
use lib.Pointwise.{pointwise_decides, bytes_decides}
use Rattle.txn.specs.declared.outpoint.OutPoint.{OutPoint}
use Rattle.txn.specs.declared.input.TxIn.{TxIn}
use Rattle.txn.specs.declared.input.Inputs.{Inputs}
use Rattle.txn.specs.declared.output.TxOut.{TxOut}
use Rattle.txn.specs.Tx.{Tx}
use Rattle.txn.specs.Equality.{same_outpoint, same_script, same_input, same_output, same_witness, same_inputs, same_outputs, inputs_of, same_tx}

pub same_script-decides : (a b : List ℕ) → Decides (same_script a b) (a ≡ b)
same_script-decides = bytes_decides

pub same_outpoint-decides : (a b : OutPoint) → Decides (same_outpoint a b) (a ≡ b)
same_outpoint-decides a b =
    Decides-like (same_outpoint a b) (λ e i. record { id = record { 0 = e.0 i }; index = e.1 i }) (λ e. (ap (λ p. p.id.0) e, ap (λ p. p.index) e))
    (Decides-and _ _ (bytes_decides a.id.0 b.id.0) (Decides-eqb a.index b.index))

pub same_input-decides : (a b : TxIn) → Decides (same_input a b) (a ≡ b)
same_input-decides a b =
    Decides-like (same_input a b) (λ e i. record { prev = e.0.0 i; script = e.0.1 i; sequence = e.1 i }) (λ e. ((ap (λ x. x.prev) e, ap (λ x. x.script) e), ap (λ x. x.sequence) e))
    (Decides-and _ _ (Decides-and _ _ (same_outpoint-decides a.prev b.prev) (same_script-decides a.script b.script)) (Decides-eqb a.sequence b.sequence))

pub same_output-decides : (a b : TxOut) → Decides (same_output a b) (a ≡ b)
same_output-decides a b =
    Decides-like (same_output a b) (λ e i. record { value = e.0 i; script = e.1 i }) (λ e. (ap (λ x. x.value) e, ap (λ x. x.script) e))
    (Decides-and _ _ (Decides-int_eq a.value b.value) (same_script-decides a.script b.script))

pub same_witness-decides : (a b : List (List ℕ)) → Decides (same_witness a b) (a ≡ b)
same_witness-decides = pointwise_decides same_script-decides

pub same_inputs-decides : (a b : Inputs) → Decides (same_inputs a b) (a ≡ b)
same_inputs-decides a b =
    Decides-like (same_inputs a b) (λ e i. record { list = e.0 i; witnesses = e.1 i }) (λ e. (ap (λ x. x.list) e, ap (λ x. x.witnesses) e))
    (Decides-and _ _ (pointwise_decides same_input-decides a.list b.list) (pointwise_decides same_witness-decides a.witnesses b.witnesses))

pub same_outputs-decides : (a b : List TxOut) → Decides (same_outputs a b) (a ≡ b)
same_outputs-decides = pointwise_decides same_output-decides

pub same_tx-decides : (a b : Tx) → Decides (same_tx a b) (a ≡ b)
same_tx-decides a b =
    Decides-like (same_tx a b)
    (λ e i. record { version = e.0.0.0 i; inputs = (e.0.0.1 i).list; outputs = e.0.1 i; lock_time = e.1 i; witnesses = (e.0.0.1 i).witnesses })
    (λ e. (((ap (λ t. t.version) e, ap inputs_of e), ap (λ t. t.outputs) e), ap (λ t. t.lock_time) e))
    (Decides-and _ _ (Decides-and _ _ (Decides-and _ _ (Decides-int_eq a.version b.version) (same_inputs-decides (inputs_of a) (inputs_of b))) (same_outputs-decides a.outputs b.outputs)) (Decides-eqb a.lock_time b.lock_time))
