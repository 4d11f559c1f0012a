use Rattle.std.proofs.Common.{◌≡◌, ◌∙◌, ◌∷◌, [], sym, ap}
use Rattle.std.specs.List.{concat}
use Rattle.std.proofs.lemmas.Result.{err_from_is_err_and}
use Rattle.script.specs.Removal.{bytes_of}
use Rattle.interp.specs.Answer.{answer_map}
use Rattle.interp.specs.Running.{digest_with, code_with}
use Rattle.interp.specs.inside.RunningContext.{running_of}
use Rattle.interp.specs.Signatures.{type_of}
use Rattle.interp.proofs.Pairs.{pair-asked, some-there}
use Rattle.interp.proofs.signature_check.judge.Goals as goal

pub returns-in_err-is_valid : goal.returns-in_err-is_valid
returns-in_err-is_valid g c =
    let r = running_of c.args.running.now in
    let signature = c.args.signature.now in
    let code = code_with r.value c.args.code.now (signature ∷ []) in
    let digest : c.digest_for-digest.result ≡ digest_with r.value r.tx r.input code (type_of signature) =
    c.digest_for-digest.ensures ∙ ap (λ slices. digest_with r.value r.tx r.input (concat (bytes_of slices)) (type_of signature)) c.as_slice.ensures.value
    ∙ ap (λ signed. digest_with r.value r.tx r.input signed (type_of signature)) c.in_ok-parts.ensures in
    let passed = err_from_is_err_and c.from_residual-in_err-is_valid.result c.from_residual-in_err-is_valid.ensures.1 in
    rw (passed.1, passed.2) (λ t is. pair-asked _ r code signature c.args.key.now c.digest_for-digest.result (sym c.if-not-may_be_tried.ensures) (some-there _ c.if-is_empty.ensures) digest ∙ ap (answer_map _) (c.in_err-is_valid.ensures t is))

pub returns : goal.returns
returns g c =
    let r = running_of c.args.running.now in
    let signature = c.args.signature.now in
    let code = code_with r.value c.args.code.now (signature ∷ []) in
    let digest : c.digest_for-digest.result ≡ digest_with r.value r.tx r.input code (type_of signature) =
    c.digest_for-digest.ensures ∙ ap (λ slices. digest_with r.value r.tx r.input (concat (bytes_of slices)) (type_of signature)) c.as_slice.ensures.value
    ∙ ap (λ signed. digest_with r.value r.tx r.input signed (type_of signature)) c.in_ok-parts.ensures in
    pair-asked _ r code signature c.args.key.now c.digest_for-digest.result (sym c.if-not-may_be_tried.ensures) (some-there _ c.if-is_empty.ensures) digest ∙ ap (answer_map _) c.in_ok-is_valid.ensures
