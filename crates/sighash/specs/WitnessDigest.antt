-- What a signature of a witness of version 0 signs (BIP 143; Bitcoin Core's `SignatureHash` with `WITNESS_V0`).
use Rattle.std.specs.Prelude.{ℕ, ℤ, List, [], ◌∷◌, ◌++◌, replicate, slice_get, if◌then◌else◌, ◌||◌}
use Rattle.std.specs.Option.{option_map_or}
use Rattle.std.specs.List.{flat_map}
use Rattle.hash.specs.Double.{double_sha}
use Rattle.wire.specs.Grammar.{number, signed32, signed64, sized_bytes}
use Rattle.txn.specs.declared.input.TxIn.{TxIn}
use Rattle.txn.specs.declared.output.TxOut.{TxOut}
use Rattle.txn.specs.Tx.{Tx}
use Rattle.txn.specs.Grammar.{outpoint, output}
use Rattle.sighash.specs.Kind.{is_none, is_single, frees_sequences, is_alone}

-- the outpoints that are spent, the sequences, and the outputs, each without their count
abbrev pub prevouts_hash : List TxIn → List ℕ
prevouts_hash inputs = double_sha (flat_map (λ i. outpoint.spell i.prev) inputs)

abbrev pub sequences_hash : List TxIn → List ℕ
sequences_hash inputs = double_sha (flat_map (λ i. (number 4).spell i.sequence) inputs)

abbrev pub outputs_hash : List TxOut → List ℕ
outputs_hash outputs = double_sha (flat_map output.spell outputs)

-- what stands where nothing of the kind is signed
abbrev pub no_hash : List ℕ
no_hash = replicate 32 0

abbrev pub signed_prevouts : ℕ → Tx → List ℕ
signed_prevouts kind t = if is_alone kind then no_hash else prevouts_hash t.inputs

abbrev pub signed_sequences : ℕ → Tx → List ℕ
signed_sequences kind t = if is_alone kind || frees_sequences kind then no_hash else sequences_hash t.inputs

-- with SINGLE that of the input's number, if it is there
abbrev pub signed_outputs : ℕ → ℕ → Tx → List ℕ
signed_outputs kind n t =
    if is_none kind then no_hash
    else (if is_single kind then option_map_or (λ o. outputs_hash (o ∷ [])) (slice_get t.outputs n) no_hash
    else outputs_hash t.outputs)

-- the signed input: its outpoint, the code, the value that it spends, and its sequence
abbrev pub signed_input : List ℕ → ℤ → TxIn → List ℕ
signed_input code value i = outpoint.spell i.prev ++ sized_bytes.spell code ++ signed64.spell value ++ (number 4).spell i.sequence

abbrev pub witness_message : Tx → ℕ → List ℕ → ℤ → ℕ → List ℕ
witness_message t n code value kind =
    signed32.spell t.version ++ signed_prevouts kind t ++ signed_sequences kind t
    ++ option_map_or (signed_input code value) (slice_get t.inputs n) []
    ++ signed_outputs kind n t ++ (number 4).spell t.lock_time ++ (number 4).spell kind

-- of the input of number n
abbrev pub witness_digest_of : Tx → ℕ → List ℕ → ℤ → ℕ → List ℕ
witness_digest_of t n code value kind = double_sha (witness_message t n code value kind)
