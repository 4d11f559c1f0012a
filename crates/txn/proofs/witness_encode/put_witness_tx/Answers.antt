use Rattle.std.proofs.Common.{◌≡◌, ℕ, List, [], ◌∷◌, ◌++◌, Result, Ok, Err, true, false, sym, ap, ◌∙◌, append_assoc}
use Rattle.std.specs.Prelude.{OnOk}
use Rattle.wire.specs.Grammar.{number}
use Rattle.wire.specs.Numbers.{i32le}
use Rattle.wire.specs.laws.Extension.{extends-trans}
use Rattle.txn.specs.Tx.{Tx}
use Rattle.txn.specs.WitnessGrammar.{has_witness, witness_transaction}
use Rattle.txn.specs.laws.WitnessSpelling.{witnessed, with_witness, without_inputs}
use Rattle.txn.proofs.WitnessLawful.{with_witness_lawful, without_inputs_lawful}
use Rattle.txn.proofs.witness_encode.put_witness_tx.Goals as goal

-- what holds where a call is answered follows from what it ensures there
on_ok : {A E : Type 0} {P Q : Type 0} (result : Result A E) → (P → Q) → OnOk result P → OnOk result Q
on_ok (Ok x) to held = to held
on_ok (Err e) to held = tt

-- a front, and what is put behind it
joined : (before front middle back whole after : List ℕ) → middle ≡ before ++ front → front ++ back ≡ whole → after ≡ middle ++ back → after ≡ before ++ whole
joined before front middle back whole after first is then_ =
    then_ ∙ ap (λ (s : List ℕ). s ++ back) first ∙ append_assoc before front back ∙ ap (λ (s : List ℕ). before ++ s) is

pub returns-in_ok-put_front-clause-written : goal.returns-in_ok-put_front-clause-written
returns-in_ok-put_front-clause-written c =
    let t : Tx = c.args.tx.now in
    let some : has_witness t.witnesses ≡ true = sym c.has_witness.ensures ∙ c.if-has_witness.true in
    on_ok c.put_witnessed.result
    (joined c.args.out.now.items (i32le t.version ++ 0 ∷ 1 ∷ []) c.put_front.new.out.items (witnessed t) (witness_transaction.spell t) c.put_witnessed.new.out.items
    c.in_ok-put_front.ensures.written (append_assoc (i32le t.version) (0 ∷ 1 ∷ []) (witnessed t) ∙ sym (with_witness t some)))
    c.put_witnessed.ensures.written

pub returns-in_ok-put_front-clause-extends : goal.returns-in_ok-put_front-clause-extends
returns-in_ok-put_front-clause-extends c = extends-trans _ _ _ c.put_front.ensures.extends c.put_witnessed.ensures.extends

pub returns-in_ok-put_front-clause-lawful : goal.returns-in_ok-put_front-clause-lawful
returns-in_ok-put_front-clause-lawful c =
    let t : Tx = c.args.tx.now in
    let some : has_witness t.witnesses ≡ true = sym c.has_witness.ensures ∙ c.if-has_witness.true in
    on_ok c.put_witnessed.result (λ lawful within. with_witness_lawful t some c.put_front.ensures.lawful (lawful some within)) c.put_witnessed.ensures.lawful

pub returns-in_ok-put_front-2-clause-written : goal.returns-in_ok-put_front-2-clause-written
returns-in_ok-put_front-2-clause-written c =
    let t : Tx = c.args.tx.now in
    let none : has_witness t.witnesses ≡ false = sym c.has_witness.ensures ∙ c.if-has_witness.false in
    let empty : t.inputs ≡ [] = sym (ap (λ (x : Tx). x.inputs) c.tx.view_is) ∙ c.is_empty.ensures.0 c.if-is_empty.true in
    on_ok c.put_lock_time.result
    (joined c.args.out.now.items (i32le t.version ++ 0 ∷ 0 ∷ []) c.put_front-then-is_empty.new.out.items ((number 4).spell t.lock_time) (witness_transaction.spell t) c.put_lock_time.new.out.items
    c.in_ok-put_front-2.ensures.written (append_assoc (i32le t.version) (0 ∷ 0 ∷ []) ((number 4).spell t.lock_time) ∙ sym (without_inputs t none empty)))
    c.put_lock_time.ensures.written

pub returns-in_ok-put_front-2-clause-extends : goal.returns-in_ok-put_front-2-clause-extends
returns-in_ok-put_front-2-clause-extends c = extends-trans _ _ _ c.put_front-then-is_empty.ensures.extends c.put_lock_time.ensures.extends

pub returns-in_ok-put_front-2-clause-lawful : goal.returns-in_ok-put_front-2-clause-lawful
returns-in_ok-put_front-2-clause-lawful c =
    let t : Tx = c.args.tx.now in
    let none : has_witness t.witnesses ≡ false = sym c.has_witness.ensures ∙ c.if-has_witness.false in
    let empty : t.inputs ≡ [] = sym (ap (λ (x : Tx). x.inputs) c.tx.view_is) ∙ c.is_empty.ensures.0 c.if-is_empty.true in
    on_ok c.put_lock_time.result (λ _ within. without_inputs_lawful t none empty c.put_front-then-is_empty.ensures.lawful c.put_lock_time.ensures.lawful within) c.put_lock_time.ensures.written
