use Rattle.std.proofs.Common.{◌≡◌, ℕ, List, [], ◌∷◌, ◌++◌, true, false, sym, ap, subst, ◌∙◌, append_assoc}
use Rattle.sha2.specs.Hashers.{Holds256}
use Rattle.wire.specs.Grammar.{number}
use Rattle.wire.specs.Numbers.{i32le}
use Rattle.txn.specs.Tx.{Tx}
use Rattle.txn.specs.WitnessGrammar.{has_witness}
use Rattle.txn.specs.laws.WitnessSpelling.{witnessed, with_witness, without_inputs}
use Rattle.txn.proofs.Spelling.{one_spelling}
use Rattle.txn.proofs.hasher_input.feed_witness_tx.Goals as goal

pub returns-then-has_witness : goal.returns-then-has_witness
returns-then-has_witness c = λ fed holds.
    let t : Tx = c.args.tx.now in
    let some : has_witness t.witnesses ≡ true = sym c.has_witness.ensures ∙ c.if-has_witness.true in
    subst (Holds256 c.feed_witnessed.new.hasher)
    (append_assoc fed (i32le t.version ++ 0 ∷ 1 ∷ []) (witnessed t) ∙ ap (λ (s : List ℕ). fed ++ s) (sym (with_witness t some)))
    (c.feed_witnessed.ensures _ (c.feed_front.ensures fed holds))

pub returns-then-is_empty : goal.returns-then-is_empty
returns-then-is_empty c = λ fed holds.
    let t : Tx = c.args.tx.now in
    let none : has_witness t.witnesses ≡ false = sym c.has_witness.ensures ∙ c.if-has_witness.false in
    let empty : t.inputs ≡ [] = sym (ap (λ (x : Tx). x.inputs) c.tx.view_is) ∙ c.is_empty.ensures.0 c.if-is_empty.true in
    subst (Holds256 c.feed_lock_time.new.hasher)
    (append_assoc fed (i32le t.version ++ 0 ∷ 0 ∷ []) ((number 4).spell t.lock_time) ∙ ap (λ (s : List ℕ). fed ++ s) (sym (without_inputs t none empty)))
    (c.feed_lock_time.ensures _ (c.feed_front-then-is_empty.ensures fed holds))

pub returns-else-is_empty : goal.returns-else-is_empty
returns-else-is_empty c = λ fed holds.
    let t : Tx = c.args.tx.now in
    let none : has_witness t.witnesses ≡ false = sym c.has_witness.ensures ∙ c.if-has_witness.false in
    let some : ¬ (t.inputs ≡ []) = λ empty. (let both : false ≡ true = sym c.if-is_empty.false ∙ c.is_empty.ensures.1 (ap (λ (x : Tx). x.inputs) c.tx.view_is ∙ empty) in absurd cc) in
    subst (Holds256 c.feed_tx.new.hasher) (ap (λ (s : List ℕ). fed ++ s) (sym (one_spelling t some none))) (c.feed_tx.ensures fed holds)
