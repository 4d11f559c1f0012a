use Rattle.std.proofs.Common.{◌≡◌, List, ℕ, Option, Some, reverse, sym, ap, ◌∙◌, refl}
use Rattle.std.specs.Option.{unwrap_or}
use Rattle.std.specs.Result.{result_ok, is_ok}
use Rattle.std.proofs.lemmas.List.{reverse-reverse}
use Rattle.hex.specs.Hex.{decode_sized}
use Rattle.hex.proofs.HexLemmas.{IsOk-decode_sized}
use Rattle.hash.specs.declared.id.Id.{Id}
use Rattle.hash.proofs.IdDigits.{decode_sized-shown}
use Rattle.hash.proofs.id.Id.read.Goals as goal

pub returns-in_err-bytes-clause-reads : goal.returns-in_err-bytes-clause-reads
returns-in_err-bytes-clause-reads c =
    let digits = IsOk-decode_sized c.args.text.now 32 in
    let refused = c.in_err-bytes.ensures.variant ∙ ap is_ok c.from_hex.ensures in
    rw c.from_residual.ensures (λ h. cc h, λ h. refused ∙ digits.1 h)

pub returns-in_err-bytes-clause-shown : goal.returns-in_err-bytes-clause-shown
returns-in_err-bytes-clause-shown c id whole same =
    let decoded = c.from_hex.ensures ∙ ap (λ t. decode_sized t 32) same ∙ decode_sized-shown id whole in
    cc (c.in_err-bytes.ensures.variant ∙ ap is_ok decoded)

pub returns-clause-reads : goal.returns-clause-reads
returns-clause-reads c =
    let digits = IsOk-decode_sized c.args.text.now 32 in
    (λ _. digits.0 (sym (c.in_ok-bytes.ensures.variant ∙ ap is_ok c.from_hex.ensures)), λ _. refl)

pub returns-clause-shown : goal.returns-clause-shown
returns-clause-shown c id whole same =
    let decoded = c.from_hex.ensures ∙ ap (λ t. decode_sized t 32) same ∙ decode_sized-shown id whole in
    let bytes : c.in_ok-bytes.bytes ≡ reverse id.0 = ap (λ o. unwrap_or o id.0) (c.in_ok-bytes.ensures.value ∙ ap result_ok decoded) in
    let make : List ℕ → Option Id = λ xs. Some (record { 0 = xs }) in
    ap make (c.reverse.ensures.after ∙ ap reverse bytes ∙ reverse-reverse id.0)
