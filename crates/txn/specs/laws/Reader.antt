-- Reading decides the grammar of transactions.
use Rattle.std.proofs.Common.{inl, ℕ, List, [], Ok, refl, sym, ap}
use Rattle.std.specs.Prelude.{ℤ}
use Rattle.wire.specs.Grammar.{piece, number, signed32, signed64, pair, counted_list, sized_bytes}
use Rattle.wire.specs.computed.Reader.{Part, piece_at, number_at, i32_at, i64_at, counted_at, sized_at}
use Rattle.wire.specs.laws.Reader.{Decides, both, made, wide4, piece_decides, number_decides, signed32_decides, signed64_decides, pair_decides, fields_decides, along, bind_assoc}
use Rattle.wire.specs.laws.Counts.{counted_decides, sized_decides}
use Rattle.txn.specs.declared.outpoint.OutPoint.{OutPoint}
use Rattle.txn.specs.declared.input.TxIn.{TxIn}
use Rattle.txn.specs.declared.output.TxOut.{TxOut}
use Rattle.txn.specs.Tx.{Tx, Witness}
use Rattle.txn.specs.Grammar.{outpoint, input, output, nothing, transaction}
use Rattle.txn.specs.computed.Reader.{outpoint_at, tx_in_at, tx_out_at, tx_at}

pub outpoint_decides : Decides outpoint outpoint_at
unfolding outpoint_at
outpoint_decides =
    let to : List ℕ × ℕ → OutPoint = λ p. record { id = record { 0 = p.0 }; index = p.1 } in
    let parts : Part (List ℕ × ℕ) = both (piece_at 32) (number_at 4) in
    along outpoint (made to parts) outpoint_at
    (fields_decides (pair (piece 32) (number 4)) parts to (λ p. (p.id.0, p.index))
    (pair_decides (piece 32) (number 4) (piece_at 32) (number_at 4) (piece_decides 32) (number_decides 4 wide4))
    (λ y. refl) (λ x. refl))
    (λ bytes. simp bind_assoc)

pub input_decides : Decides input tx_in_at
unfolding tx_in_at
input_decides =
    let to : OutPoint × (List ℕ × ℕ) → TxIn = λ p. record { prev = p.0; script = p.1.0; sequence = p.1.1 } in
    let last : Part (List ℕ × ℕ) = both sized_at (number_at 4) in
    let parts : Part (OutPoint × (List ℕ × ℕ)) = both outpoint_at last in
    along input (made to parts) tx_in_at
    (fields_decides (pair outpoint (pair sized_bytes (number 4))) parts to (λ i. (i.prev, (i.script, i.sequence)))
    (pair_decides outpoint (pair sized_bytes (number 4)) outpoint_at last outpoint_decides
    (pair_decides sized_bytes (number 4) sized_at (number_at 4) sized_decides (number_decides 4 wide4)))
    (λ y. refl) (λ x. refl))
    (λ bytes. simp bind_assoc)

pub output_decides : Decides output tx_out_at
unfolding tx_out_at
output_decides =
    let to : ℤ × List ℕ → TxOut = λ p. record { value = p.0; script = p.1 } in
    let parts : Part (ℤ × List ℕ) = both i64_at sized_at in
    along output (made to parts) tx_out_at
    (fields_decides (pair signed64 sized_bytes) parts to (λ o. (o.value, o.script))
    (pair_decides signed64 sized_bytes i64_at sized_at signed64_decides sized_decides)
    (λ y. refl) (λ x. refl))
    (λ bytes. simp bind_assoc)

pub nothing_decides : {A : Type 0} → Decides {A = List A} nothing (λ bytes. Ok ([], bytes))
nothing_decides {A = A} = record {
  again = λ x rest h. ap (λ (xs : List A). Ok (xs, rest)) (sym h);
  refuses = λ fault bytes h. absurd h;
  total = λ bytes fits. inl (record { value = []; rest = bytes; lawful = refl; parts = refl });
}

abbrev pub no_witnesses : Part (List Witness)
no_witnesses bytes = Ok ([], bytes)

pub transaction_decides : Decides transaction tx_at
unfolding tx_at
transaction_decides =
    let to : ℤ × (List TxIn × (List TxOut × (List Witness × ℕ))) → Tx = λ p. record { version = p.0; inputs = p.1.0; outputs = p.1.1.0; witnesses = p.1.1.1.0; lock_time = p.1.1.1.1 } in
    let last : Part (List Witness × ℕ) = both no_witnesses (number_at 4) in
    let third : Part (List TxOut × (List Witness × ℕ)) = both (counted_at tx_out_at) last in
    let second : Part (List TxIn × (List TxOut × (List Witness × ℕ))) = both (counted_at tx_in_at) third in
    let parts : Part (ℤ × (List TxIn × (List TxOut × (List Witness × ℕ)))) = both i32_at second in
    along transaction (made to parts) tx_at
    (fields_decides (pair signed32 (pair (counted_list input) (pair (counted_list output) (pair nothing (number 4))))) parts to (λ t. (t.version, (t.inputs, (t.outputs, (t.witnesses, t.lock_time)))))
    (pair_decides signed32 (pair (counted_list input) (pair (counted_list output) (pair nothing (number 4)))) i32_at second signed32_decides
    (pair_decides (counted_list input) (pair (counted_list output) (pair nothing (number 4))) (counted_at tx_in_at) third (counted_decides input tx_in_at input_decides)
    (pair_decides (counted_list output) (pair nothing (number 4)) (counted_at tx_out_at) last (counted_decides output tx_out_at output_decides)
    (pair_decides nothing (number 4) no_witnesses (number_at 4) nothing_decides (number_decides 4 wide4)))))
    (λ y. refl) (λ x. refl))
    (λ bytes. simp bind_assoc)
