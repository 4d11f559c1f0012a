-- The digest that is signed (Bitcoin Core's `SignatureHash` before segregated witness), over a copy of the transaction
-- (`CTransactionSignatureSerializer`).
use Rattle.std.specs.Prelude.{ℕ, ◌+◌, negsuc, List, [], ◌++◌, map, take, drop, if◌then◌else◌, ◌∷◌, length, replicate, nat_le, ◌&&◌}
use Rattle.txn.specs.declared.input.TxIn.{TxIn}
use Rattle.txn.specs.declared.output.TxOut.{TxOut}
use Rattle.txn.specs.Tx.{Tx}
use Rattle.sighash.specs.Kind.{is_none, is_single, frees_sequences, is_alone}
use Rattle.hash.specs.Double.{double_sha}
use Rattle.wire.specs.Grammar.{number}
use Rattle.txn.specs.Grammar.{transaction}

-- the input that is signed gets the code as its script
abbrev pub own_input : List ℕ → TxIn → TxIn
own_input code i = record { prev = i.prev; script = code; sequence = i.sequence }

-- the others get none
abbrev pub other_input : ℕ → TxIn → TxIn
other_input kind i = record { prev = i.prev; script = []; sequence = if frees_sequences kind then 0 else i.sequence }

-- the input of number n alone, or among the others
abbrev pub signed_inputs : ℕ → ℕ → List ℕ → List TxIn → List TxIn
signed_inputs kind n code inputs =
    if is_alone kind then map (own_input code) (take 1 (drop n inputs))
    else map (other_input kind) (take n inputs) ++ map (own_input code) (take 1 (drop n inputs)) ++ map (other_input kind) (drop (n + 1) inputs)

-- an output of value -1 without a script
abbrev pub blank_output : TxOut
blank_output = record { value = negsuc 0; script = [] }

-- none, those up to number n with the earlier ones blanked, or all
abbrev pub signed_outputs : ℕ → ℕ → List TxOut → List TxOut
signed_outputs kind n outputs =
    if is_none kind then []
    else if is_single kind then map (λ _. blank_output) (take n outputs) ++ take 1 (drop n outputs)
    else outputs

abbrev pub signed_copy : Tx → ℕ → List ℕ → ℕ → Tx
signed_copy t n code kind = record {
  version = t.version;
  inputs = signed_inputs kind n code t.inputs;
  outputs = signed_outputs kind n t.outputs;
  lock_time = t.lock_time;
  witnesses = [];
}

-- double SHA-256 of the signed copy's bytes and the kind's four; for SINGLE without an output of that
-- number, the number 1 in 32 bytes
abbrev pub digest_of : Tx → ℕ → List ℕ → ℕ → List ℕ
digest_of t n code kind =
    if is_single kind && nat_le (length t.outputs) n then 1 ∷ replicate 31 0
    else double_sha (transaction.spell (signed_copy t n code kind) ++ (number 4).spell kind)
