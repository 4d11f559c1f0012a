use Rattle.std.proofs.Common.{◌≡◌, ◌↔◌, true, false, List, [], Some, None, refl, sym, ap, subst, ◌∙◌}
use Rattle.txn.specs.declared.input.TxIn.{TxIn}
use Rattle.txn.specs.declared.output.TxOut.{TxOut}
use Rattle.txn.specs.Tx.{Tx}
use Rattle.txn.specs.First.{first_broken}
use Rattle.txn.specs.Check.{has_twice, prevs, output_rules, tx_rules}
use Rattle.txn.proofs.RuleOrder.{among, after, not_empty}
use Rattle.txn.proofs.check_transaction.check.Goals as goal

pub returns-in-Some-clause-found : goal.returns-in-Some-clause-found
unfolding tx_rules
returns-in-Some-clause-found c =
    let inputs = not_empty c.args.tx.now.inputs c.is_empty.result (subst (λ (xs : List TxIn). (c.is_empty.result ≡ true) ↔ (xs ≡ [])) (ap (λ (t : Tx). t.inputs) c.tx.view_is) c.is_empty.ensures) c.if-is_empty.false in
    let outputs = not_empty c.args.tx.now.outputs c.is_empty-2.result (subst (λ (xs : List TxOut). (c.is_empty-2.result ≡ true) ↔ (xs ≡ [])) (ap (λ (t : Tx). t.outputs) c.tx.view_is) c.is_empty-2.ensures) c.if-is_empty-2.false in
    let found : first_broken (output_rules [] c.args.tx.now.outputs) ≡ Some c.in-Some.reason = ap (λ os. first_broken (output_rules [] os)) (sym (c.as_slice.ensures ∙ ap (λ (t : Tx). t.outputs) c.tx.view_is)) ∙ sym c.broken_output.ensures ∙ c.in-Some.is in
    among _ _ _ _ (output_rules [] c.args.tx.now.outputs) _ c.in-Some.reason inputs outputs found

pub returns-then-branch-clause-found : goal.returns-then-branch-clause-found
unfolding tx_rules
returns-then-branch-clause-found c =
    let inputs = not_empty c.args.tx.now.inputs c.is_empty.result (subst (λ (xs : List TxIn). (c.is_empty.result ≡ true) ↔ (xs ≡ [])) (ap (λ (t : Tx). t.inputs) c.tx.view_is) c.is_empty.ensures) c.if-is_empty.false in
    let outputs = not_empty c.args.tx.now.outputs c.is_empty-2.result (subst (λ (xs : List TxOut). (c.is_empty-2.result ≡ true) ↔ (xs ≡ [])) (ap (λ (t : Tx). t.outputs) c.tx.view_is) c.is_empty-2.ensures) c.if-is_empty-2.false in
    let none : first_broken (output_rules [] c.args.tx.now.outputs) ≡ None = ap (λ os. first_broken (output_rules [] os)) (sym (c.as_slice.ensures ∙ ap (λ (t : Tx). t.outputs) c.tx.view_is)) ∙ sym c.broken_output.ensures ∙ c.in_default.is in
    let twice : has_twice (prevs c.args.tx.now.inputs) ≡ true = ap (λ is. has_twice (prevs is)) (sym (c.as_slice-2.ensures ∙ ap (λ (t : Tx). t.inputs) c.tx.view_is)) ∙ sym c.in_ok-has_twice.ensures.twice ∙ c.if-branch.true in
    after _ _ _ _ (output_rules [] c.args.tx.now.outputs) _ _ inputs outputs none (rw twice refl)

pub returns-then-has_bad_length-clause-found : goal.returns-then-has_bad_length-clause-found
unfolding tx_rules
returns-then-has_bad_length-clause-found c =
    let inputs = not_empty c.args.tx.now.inputs c.is_empty.result (subst (λ (xs : List TxIn). (c.is_empty.result ≡ true) ↔ (xs ≡ [])) (ap (λ (t : Tx). t.inputs) c.tx.view_is) c.is_empty.ensures) c.if-is_empty.false in
    let outputs = not_empty c.args.tx.now.outputs c.is_empty-2.result (subst (λ (xs : List TxOut). (c.is_empty-2.result ≡ true) ↔ (xs ≡ [])) (ap (λ (t : Tx). t.outputs) c.tx.view_is) c.is_empty-2.ensures) c.if-is_empty-2.false in
    let none : first_broken (output_rules [] c.args.tx.now.outputs) ≡ None = ap (λ os. first_broken (output_rules [] os)) (sym (c.as_slice.ensures ∙ ap (λ (t : Tx). t.outputs) c.tx.view_is)) ∙ sym c.broken_output.ensures ∙ c.in_default.is in
    let twice : has_twice (prevs c.args.tx.now.inputs) ≡ false = ap (λ is. has_twice (prevs is)) (sym (c.as_slice-2.ensures ∙ ap (λ (t : Tx). t.inputs) c.tx.view_is)) ∙ sym c.in_ok-has_twice.ensures.twice ∙ c.if-branch.false in
    let bad = sym c.has_bad_length.ensures ∙ c.if-has_bad_length.true in
    after _ _ _ _ (output_rules [] c.args.tx.now.outputs) _ _ inputs outputs none (rw (twice, bad) refl)

pub returns-then-has_null-clause-found : goal.returns-then-has_null-clause-found
unfolding tx_rules
returns-then-has_null-clause-found c =
    let inputs = not_empty c.args.tx.now.inputs c.is_empty.result (subst (λ (xs : List TxIn). (c.is_empty.result ≡ true) ↔ (xs ≡ [])) (ap (λ (t : Tx). t.inputs) c.tx.view_is) c.is_empty.ensures) c.if-is_empty.false in
    let outputs = not_empty c.args.tx.now.outputs c.is_empty-2.result (subst (λ (xs : List TxOut). (c.is_empty-2.result ≡ true) ↔ (xs ≡ [])) (ap (λ (t : Tx). t.outputs) c.tx.view_is) c.is_empty-2.ensures) c.if-is_empty-2.false in
    let none : first_broken (output_rules [] c.args.tx.now.outputs) ≡ None = ap (λ os. first_broken (output_rules [] os)) (sym (c.as_slice.ensures ∙ ap (λ (t : Tx). t.outputs) c.tx.view_is)) ∙ sym c.broken_output.ensures ∙ c.in_default.is in
    let twice : has_twice (prevs c.args.tx.now.inputs) ≡ false = ap (λ is. has_twice (prevs is)) (sym (c.as_slice-2.ensures ∙ ap (λ (t : Tx). t.inputs) c.tx.view_is)) ∙ sym c.in_ok-has_twice.ensures.twice ∙ c.if-branch.false in
    let good = sym c.has_bad_length.ensures ∙ c.if-has_bad_length.false in
    let bad = sym c.has_null.ensures ∙ c.if-has_null.true in
    after _ _ _ _ (output_rules [] c.args.tx.now.outputs) _ _ inputs outputs none (rw (twice, good, bad) refl)

pub returns-clause-found : goal.returns-clause-found
unfolding tx_rules
returns-clause-found c =
    let inputs = not_empty c.args.tx.now.inputs c.is_empty.result (subst (λ (xs : List TxIn). (c.is_empty.result ≡ true) ↔ (xs ≡ [])) (ap (λ (t : Tx). t.inputs) c.tx.view_is) c.is_empty.ensures) c.if-is_empty.false in
    let outputs = not_empty c.args.tx.now.outputs c.is_empty-2.result (subst (λ (xs : List TxOut). (c.is_empty-2.result ≡ true) ↔ (xs ≡ [])) (ap (λ (t : Tx). t.outputs) c.tx.view_is) c.is_empty-2.ensures) c.if-is_empty-2.false in
    let none : first_broken (output_rules [] c.args.tx.now.outputs) ≡ None = ap (λ os. first_broken (output_rules [] os)) (sym (c.as_slice.ensures ∙ ap (λ (t : Tx). t.outputs) c.tx.view_is)) ∙ sym c.broken_output.ensures ∙ c.in_default.is in
    let twice : has_twice (prevs c.args.tx.now.inputs) ≡ false = ap (λ is. has_twice (prevs is)) (sym (c.as_slice-2.ensures ∙ ap (λ (t : Tx). t.inputs) c.tx.view_is)) ∙ sym c.in_ok-has_twice.ensures.twice ∙ c.if-branch.false in
    let good = sym c.has_bad_length.ensures ∙ c.if-has_bad_length.false in
    let none_null = sym c.has_null.ensures ∙ c.if-has_null.false in
    after _ _ _ _ (output_rules [] c.args.tx.now.outputs) _ _ inputs outputs none (rw (twice, good, none_null) refl)
