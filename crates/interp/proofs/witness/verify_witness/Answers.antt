use Rattle.std.proofs.Common.{◌∙◌, ℤ, ap, sym, w64}
use Rattle.std.proofs.lemmas.Int.{to_z-of_z}
use Rattle.std.proofs.lemmas.Result.{err_from_is_err_and}
use Rattle.txn.specs.declared.input.TxIn.{TxIn}
use Rattle.txn.specs.Tx.{Tx}
use Rattle.interp.specs.Question.{question_of}
use Rattle.interp.specs.Witness.{witness_with}
use Rattle.interp.proofs.Witnesses.{witness-there}
use Rattle.interp.proofs.witness.verify_witness.Goals as goal

pub returns-in_err-yes : goal.returns-in_err-yes
returns-in_err-yes g c =
    let found = c.index-as_slice-job.is in
    let passed = err_from_is_err_and c.from_residual.result c.from_residual.ensures.1 in
    rw (passed.1, passed.2) (λ t is.
    witness-there _ (question_of c.args.job.now) c.args.value c.as_slice.result.now c.index-as_slice-job.result c.as_slice-script.result.now found (c.as_slice.ensures ∙ ap (λ (t : Tx). t.inputs) c.tx.view_is) c.requires.input
    (c.as_slice-script.ensures ∙ ap (λ (own : TxIn). own.script) (sym found)) ∙ ap (λ (value : ℤ). witness_with (g.K.KnowsSignatures.known c.args.known.now) (question_of c.args.job.now) value c.as_slice-script.result.now) (sym (to_z-of_z w64 c.args.value c.ranges.value))
    ∙ c.in_err-yes.ensures t is)

pub returns : goal.returns
returns g c =
    let found = c.index-as_slice-job.is in
    witness-there _ (question_of c.args.job.now) c.args.value c.as_slice.result.now c.index-as_slice-job.result c.as_slice-script.result.now found (c.as_slice.ensures ∙ ap (λ (t : Tx). t.inputs) c.tx.view_is) c.requires.input
    (c.as_slice-script.ensures ∙ ap (λ (own : TxIn). own.script) (sym found)) ∙ ap (λ (value : ℤ). witness_with (g.K.KnowsSignatures.known c.args.known.now) (question_of c.args.job.now) value c.as_slice-script.result.now) (sym (to_z-of_z w64 c.args.value c.ranges.value))
    ∙ c.in_ok-yes.ensures
