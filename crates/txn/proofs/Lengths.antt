-- The bytes of a spelling are those of its parts.
use Rattle.std.proofs.Common.{◌≡◌, ℕ, ◌+◌, true, false, List, [], ◌∷◌, ◌++◌, length, length-append, sum_by, ap, arith}
use Rattle.std.specs.List.{flat_map}
use Rattle.std.proofs.lemmas.List.Concat.{length-flat_map}
use Rattle.wire.specs.Numbers.{compact_size, i32le, i64le}
use Rattle.wire.specs.Grammar.{sized_bytes, counted_list}
use Rattle.byteorder.specs.Endian.{little_bytes}
use Rattle.txn.specs.declared.input.TxIn.{TxIn}
use Rattle.txn.specs.declared.output.TxOut.{TxOut}
use Rattle.txn.specs.Tx.{Tx, Witness}
use Rattle.txn.specs.Grammar.{input, output, transaction}
use Rattle.txn.specs.WitnessGrammar.{witness, has_witness, witness_transaction}
use Rattle.txn.specs.laws.WitnessSpelling.{witnessed, with_witness, without_inputs}

pub of_script : (s : List ℕ) → length (sized_bytes.spell s) ≡ length (compact_size (length s)) + length s
of_script s = length-append (compact_size (length s)) s

pub of_output : (o : TxOut) → length (output.spell o) ≡ length (sized_bytes.spell o.script) + 8
of_output o = omega (arith, length-append (i64le o.value) (sized_bytes.spell o.script))

pub of_input : (i : TxIn) → length (input.spell i) ≡ length (sized_bytes.spell i.script) + (length i.prev.id.0 + 8)
of_input i =
    let four = little_bytes 4 i.sequence in
    omega (arith, length-append (i.prev.id.0 ++ little_bytes 4 i.prev.index) (sized_bytes.spell i.script ++ four), length-append i.prev.id.0 (little_bytes 4 i.prev.index), length-append (sized_bytes.spell i.script) four)

pub of_transaction : (t : Tx) → length (transaction.spell t)
    ≡ sum_by (λ i. length (input.spell i)) t.inputs + sum_by (λ o. length (output.spell o)) t.outputs + (length (compact_size (length t.inputs)) + length (compact_size (length t.outputs)) + 8)
of_transaction t =
    let ins = (counted_list input).spell t.inputs in
    let outs = (counted_list output).spell t.outputs in
    let four = little_bytes 4 t.lock_time in
    omega (
      arith,
      length-append (i32le t.version) (ins ++ (outs ++ four)),
      length-append ins (outs ++ four),
      length-append outs four,
      length-append (compact_size (length t.inputs)) (flat_map input.spell t.inputs),
      length-append (compact_size (length t.outputs)) (flat_map output.spell t.outputs),
      length-flat_map input.spell t.inputs,
      length-flat_map output.spell t.outputs,
    )

pub of_witness : (w : Witness) → length (witness.spell w) ≡ sum_by (λ s. length (sized_bytes.spell s)) w + length (compact_size (length w))
of_witness w =
    omega (arith, length-append (compact_size (length w)) (flat_map sized_bytes.spell w), length-flat_map sized_bytes.spell w)

-- a count of 0 and the flag stand before the inputs, and the witnesses behind the outputs
pub with_witnesses : (t : Tx) → has_witness t.witnesses ≡ true → length (witness_transaction.spell t) ≡ length (transaction.spell t) + (sum_by (λ w. length (witness.spell w)) t.witnesses + 2)
with_witnesses t some =
    let ins = (counted_list input).spell t.inputs in
    let outs = (counted_list output).spell t.outputs in
    let each = flat_map witness.spell t.witnesses in
    let four = little_bytes 4 t.lock_time in
    omega (
      arith,
      ap length (with_witness t some),
      length-append (i32le t.version) (0 ∷ 1 ∷ witnessed t),
      length-append ins (outs ++ (each ++ four)),
      length-append outs (each ++ four),
      length-append each four,
      length-flat_map witness.spell t.witnesses,
      length-append (i32le t.version) (ins ++ (outs ++ four)),
      length-append ins (outs ++ four),
      length-append outs four,
    )

pub no_inputs : (t : Tx) → has_witness t.witnesses ≡ false → t.inputs ≡ [] → length (witness_transaction.spell t) ≡ 10
no_inputs t none empty =
    omega (arith, ap length (without_inputs t none empty), length-append (i32le t.version) (0 ∷ 0 ∷ little_bytes 4 t.lock_time))
