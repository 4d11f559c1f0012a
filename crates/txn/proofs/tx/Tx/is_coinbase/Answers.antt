use Rattle.std.proofs.Common.{◌≡◌, [], ◌∷◌, sym, ap, ◌∙◌}
use Rattle.txn.specs.declared.input.TxIn.{TxIn}
use Rattle.txn.specs.Tx.{Tx}
use Rattle.txn.specs.Coinbase.{is_only_null}
use Rattle.txn.proofs.Coinbase.{one_input, same_head}
use Rattle.txn.proofs.tx.Tx.is_coinbase.Goals as goal

pub returns-in-len1-clause-coinbase : goal.returns-in-len1-clause-coinbase
returns-in-len1-clause-coinbase c =
    let x : TxIn = c.input-item.result in
    let one : c.args.self.now.inputs ≡ x ∷ [] = ap (λ (t : Tx). t.inputs) (sym c.self.view_is) ∙ sym c.as_slice.ensures ∙ one_input c.as_slice.result.now x c.in-len1.len_at_least c.in-len1.len_below c.input-item.is in
    (λ h. (x, one, c.is_null.ensures.null.0 h), λ h. c.is_null.ensures.null.1 (ap (λ (y : TxIn). y.prev) (same_head x h.0 (sym one ∙ h.1)) ∙ h.2))

pub returns-in-len1-clause-test : goal.returns-in-len1-clause-test
returns-in-len1-clause-test c =
    let x : TxIn = c.input-item.result in
    let one : c.args.self.now.inputs ≡ x ∷ [] = ap (λ (t : Tx). t.inputs) (sym c.self.view_is) ∙ sym c.as_slice.ensures ∙ one_input c.as_slice.result.now x c.in-len1.len_at_least c.in-len1.len_below c.input-item.is in
    c.is_null.ensures.test ∙ sym (ap is_only_null one)
