-- What the spelling with witnesses is, by whether there is one.
use Rattle.std.proofs.Common.{◌≡◌, ℕ, Bool, true, false, List, [], ◌∷◌, ◌++◌, length, refl, sym, ap, ◌∙◌, append_assoc}
use Rattle.std.specs.List.{flat_map}
use Rattle.wire.specs.Grammar.{number, counted_list}
use Rattle.wire.specs.Numbers.{i32le, compact_size}
use Rattle.txn.specs.declared.input.TxIn.{TxIn}
use Rattle.txn.specs.Tx.{Tx}
use Rattle.txn.specs.Grammar.{input, output, transaction}
use Rattle.txn.specs.WitnessGrammar.{Body, parts_of, has_witness, bit_of, witness_body, flagged_by, flagged_body, front_count, body_after, body, witness_transaction}

-- behind the flag
abbrev pub witnessed : Tx → List ℕ
witnessed t = witness_body.spell (parts_of t).1

by_count : (b : Body) (n : ℕ) → front_count b ≡ n → body.spell b ≡ compact_size n ++ (body_after n).spell b
by_count b n is = ap (λ (m : ℕ). compact_size m ++ (body_after m).spell b) is

by_flag : (b : Body) (has : Bool) → has_witness b.1.1.0 ≡ has → flagged_body.spell b ≡ bit_of has ∷ (flagged_by has).spell b
by_flag b has is = ap (λ (h : Bool). bit_of h ∷ (flagged_by h).spell b) is

no_count : (b : Body) → front_count b ≡ 0 → body.spell b ≡ 0 ∷ flagged_body.spell b
unfolding compact_size
no_count b is = by_count b 0 is

pub with_witness : (t : Tx) → has_witness t.witnesses ≡ true → witness_transaction.spell t ≡ i32le t.version ++ 0 ∷ 1 ∷ witnessed t
with_witness t some =
    let b : Body = (parts_of t).1 in
    let first : front_count b ≡ 0 = rw some refl in
    ap (λ (s : List ℕ). i32le t.version ++ s) (no_count b first ∙ ap (λ (s : List ℕ). 0 ∷ s) (by_flag b true some))

pub without_inputs : (t : Tx) → has_witness t.witnesses ≡ false → t.inputs ≡ [] → witness_transaction.spell t ≡ i32le t.version ++ 0 ∷ 0 ∷ (number 4).spell t.lock_time
without_inputs t none empty =
    let b : Body = (parts_of t).1 in
    let first : front_count b ≡ 0 = rw (none, empty) refl in
    ap (λ (s : List ℕ). i32le t.version ++ s) (no_count b first ∙ ap (λ (s : List ℕ). 0 ∷ s) (by_flag b false none))

pub without_witness : (t : Tx) (i : TxIn) (is : List TxIn) → has_witness t.witnesses ≡ false → t.inputs ≡ i ∷ is → witness_transaction.spell t ≡ transaction.spell t
without_witness t i is none has =
    let bare : List ℕ = (counted_list output).spell t.outputs ++ (number 4).spell t.lock_time in
    rw (none, has) (ap (λ (s : List ℕ). i32le t.version ++ s) (sym (append_assoc (compact_size (length (i ∷ is))) (flat_map input.spell (i ∷ is)) bare)))
