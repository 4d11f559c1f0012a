use Rattle.std.proofs.Common.{◌≡◌, ℕ, ◌-◌, ◌^◌, length, sum_by, min, true, false, List, [], ap, sym, ◌∙◌, arith}
use Rattle.txn.specs.Tx.{Tx, Witness}
use Rattle.txn.specs.Grammar.{transaction}
use Rattle.txn.specs.WitnessGrammar.{witness, has_witness}
use Rattle.txn.proofs.Spelling.{one_spelling}
use Rattle.txn.proofs.Lengths.{with_witnesses, no_inputs}
use Rattle.txn.proofs.sizes.total_size.Goals as goal

pub returns-then-has_witness : goal.returns-then-has_witness
returns-then-has_witness c =
    let t : Tx = c.args.tx.now in
    let some : has_witness t.witnesses ≡ true = sym c.has_witness.ensures ∙ c.if-has_witness.true in
    let of : List Witness → ℕ = λ ws. sum_by (λ w. length (witness.spell w)) ws in
    let each : of c.witnesses.result.now ≡ of t.witnesses = ap of (c.witnesses.ensures ∙ ap (λ (x : Tx). x.witnesses) c.tx.view_is) in
    let kept : c.witnesses_size.result ≡ min (of c.witnesses.result.now) (2 ^ 64 - 1) = c.witnesses_size.ensures in
    let bare : c.size.result ≡ min (length (transaction.spell t)) (2 ^ 64 - 1) = c.size.ensures in
    omega (arith, with_witnesses t some, each, kept, bare)

pub returns-then-is_empty : goal.returns-then-is_empty
returns-then-is_empty c =
    let t : Tx = c.args.tx.now in
    let none : has_witness t.witnesses ≡ false = sym c.has_witness.ensures ∙ c.if-has_witness.false in
    let empty : t.inputs ≡ [] = sym (ap (λ (x : Tx). x.inputs) c.tx.view_is) ∙ c.is_empty.ensures.0 c.if-is_empty.true in
    let whole = no_inputs t none empty in
    omega (arith, whole)

pub returns : goal.returns
returns c =
    let t : Tx = c.args.tx.now in
    let none : has_witness t.witnesses ≡ false = sym c.has_witness.ensures ∙ c.if-has_witness.false in
    let some : ¬ (t.inputs ≡ []) = λ empty. (let both : false ≡ true = sym c.if-is_empty.false ∙ c.is_empty.ensures.1 (ap (λ (x : Tx). x.inputs) c.tx.view_is ∙ empty) in absurd cc) in
    let bare : c.size-2.result ≡ min (length (transaction.spell t)) (2 ^ 64 - 1) = c.size-2.ensures in
    bare ∙ ap (λ (s : List ℕ). min (length s) (2 ^ 64 - 1)) (sym (one_spelling t some none))
