-- Ids with witnesses, where there are none.
use Rattle.std.proofs.Common.{◌≡◌, ℕ, Bool, false, List, [], ◌∷◌, map, refl, sym, ap, ◌∙◌}
use Rattle.std.specs.List.{AllByRecursion}
use Rattle.hash.specs.Double.{double_sha}
use Rattle.hash.specs.declared.id.Id.{Id}
use Rattle.txn.specs.declared.input.TxIn.{TxIn}
use Rattle.txn.specs.Tx.{Tx}
use Rattle.txn.specs.Identity.{id_of, ids_of}
use Rattle.txn.specs.Weight.{witness_id_of}
use Rattle.txn.specs.WitnessGrammar.{has_witness}
use Rattle.txn.specs.laws.WitnessSpelling.{without_witness}

-- an input, and no witness
abbrev pub IsWithoutWitness : Tx → Type 0
IsWithoutWitness t = ¬ (t.inputs ≡ []) × (has_witness t.witnesses ≡ false)

one_id : (t : Tx) (inputs : List TxIn) → t.inputs ≡ inputs → ¬ (inputs ≡ []) → has_witness t.witnesses ≡ false → witness_id_of t ≡ id_of t
one_id t [] is some none = absurd (some refl)
one_id t (i ∷ others) is some none =
    let named : List ℕ → Id = λ bytes. record { 0 = double_sha bytes } in
    ap named (without_witness t i others none is)

pub same_ids : (txs : List Tx) → AllByRecursion IsWithoutWitness txs → map witness_id_of txs ≡ ids_of txs
same_ids [] h = refl
same_ids (t ∷ txs) h =
    let first : witness_id_of t ≡ id_of t = one_id t t.inputs refl h.0.0 h.0.1 in
    ap (λ (id : Id). id ∷ map witness_id_of txs) first ∙ ap (λ (ids : List Id). id_of t ∷ ids) (same_ids txs h.1)
