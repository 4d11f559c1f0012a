use Rattle.std.proofs.Common.{◌∙◌, ap, sym}
use Rattle.std.proofs.lemmas.Result.{err_from_is_err_and}
use Rattle.txn.specs.declared.input.TxIn.{TxIn}
use Rattle.txn.specs.Tx.{Tx}
use Rattle.interp.specs.Question.{question_of}
use Rattle.interp.proofs.Inputs.{verdict-there}
use Rattle.interp.proofs.verification.verify_with.Goals as goal

pub returns-in_err-yes : goal.returns-in_err-yes
returns-in_err-yes g c =
    let found = c.index-as_slice-job.is in
    let passed = err_from_is_err_and c.from_residual.result c.from_residual.ensures.1 in
    rw (passed.1, passed.2) (λ t is.
    verdict-there _ (question_of c.args.job.now) c.as_slice.result.now c.index-as_slice-job.result c.as_slice-script.result.now found (c.as_slice.ensures ∙ ap (λ (t : Tx). t.inputs) c.tx.view_is) c.requires
    (c.as_slice-script.ensures ∙ ap (λ (own : TxIn). own.script) (sym found)) ∙ c.in_err-yes.ensures t is)

pub returns : goal.returns
returns g c =
    let found = c.index-as_slice-job.is in
    verdict-there _ (question_of c.args.job.now) c.as_slice.result.now c.index-as_slice-job.result c.as_slice-script.result.now found (c.as_slice.ensures ∙ ap (λ (t : Tx). t.inputs) c.tx.view_is) c.requires
    (c.as_slice-script.ensures ∙ ap (λ (own : TxIn). own.script) (sym found)) ∙ c.in_ok-yes.ensures
