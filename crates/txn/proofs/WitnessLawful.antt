-- When BIP 144's spelling of a transaction is lawful.
use Rattle.std.proofs.Common.{◌≡◌, inl, inr, true, false, ℕ, Bool, List, [], refl, sym, subst, ◌∙◌, arith}
use Rattle.wire.specs.Grammar.{number, signed32, count}
use Rattle.txn.specs.declared.input.TxIn.{TxIn}
use Rattle.txn.specs.Tx.{Tx, Witness}
use Rattle.txn.specs.Grammar.{transaction}
use Rattle.txn.specs.Limits.{AreWitnessesWithin, IsWithinLimits, IsWithinLimitsBy}
use Rattle.txn.specs.WitnessGrammar.{Body, parts_of, has_witness, front_count, flagged_by, flagged_body, body_after, body, witness_body, witness_transaction}
use Rattle.txn.specs.laws.WitnessReader.{lawful_in_both}

-- a count of 0 in front, and what follows its flag
flagged_lawful : (b : Body) → front_count b ≡ 0 → (has : Bool) → has_witness b.1.1.0 ≡ has → (flagged_by has).Lawful b → body.Lawful b
flagged_lawful b none has is lawful =
    let after : flagged_body.Lawful b = (tt, subst (λ (h : Bool). (flagged_by h).Lawful b) (sym is) lawful) in
    subst (λ (n : ℕ). count.Lawful n × (body_after n).Lawful b) (sym none) (omega arith, after)

pub with_witness_lawful : (t : Tx) → has_witness t.witnesses ≡ true → signed32.Lawful t.version → witness_body.Lawful (parts_of t).1 → witness_transaction.Lawful t
with_witness_lawful t some version lawful =
    let b : Body = (parts_of t).1 in
    let first : front_count b ≡ 0 = rw some refl in
    (version, flagged_lawful b first true some lawful)

no_witness : (inputs : List TxIn) (witnesses : List Witness) → has_witness witnesses ≡ false → AreWitnessesWithin inputs witnesses → witnesses ≡ []
no_witness inputs witnesses none (inl empty) = empty
no_witness inputs witnesses none (inr some) = (let both : true ≡ false = sym some.0 ∙ none in absurd cc)

pub without_inputs_lawful : (t : Tx) → has_witness t.witnesses ≡ false → t.inputs ≡ [] → signed32.Lawful t.version → (number 4).Lawful t.lock_time → IsWithinLimitsBy true t → witness_transaction.Lawful t
without_inputs_lawful t none empty version lock_time within =
    let b : Body = (parts_of t).1 in
    let first : front_count b ≡ 0 = rw (none, empty) refl in
    let bare : t.witnesses ≡ [] = no_witness t.inputs t.witnesses none within.2 in
    (version, flagged_lawful b first false none (empty, (within.3 empty, (bare, lock_time))))

pub without_witness_lawful : (t : Tx) → has_witness t.witnesses ≡ false → ¬ (t.inputs ≡ []) → (IsWithinLimits t → transaction.Lawful t) → IsWithinLimitsBy true t → witness_transaction.Lawful t
without_witness_lawful t none some lawful within =
    (lawful_in_both t some (lawful (within.0, within.1, no_witness t.inputs t.witnesses none within.2))).0
