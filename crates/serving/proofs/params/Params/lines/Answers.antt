use Rattle.std.proofs.Common.{◌≡◌, ℕ, List, Option, Some, refl, ap, subst, inr, ◌∙◌, sym}
use Rattle.std.specs.Prelude.{option_map, option_and_then}
use Rattle.std.specs.List.{All}
use Rattle.json.specs.Find.{as_str}
use Rattle.json.specs.Json.{Json}
use Rattle.json.specs.Value.{value_view}
use Rattle.signatures.specs.Lines.{lines, IsReadable, IsFaultOf}
use Rattle.serving.specs.Requests.{param}
use Rattle.serving.specs.inside.Given.{given}
use Rattle.serving.proofs.Refusals.{not_all, one_text}
use Rattle.serving.proofs.params.Params.lines.Goals as goal

pub returns-in-Err-BadLine-clause-err : goal.returns-in-Err-BadLine-clause-err
returns-in-Err-BadLine-clause-err c =
    let bad = subst (IsFaultOf (lines c.as_bytes.result.now)) c.in-Err-BadLine.field-0-is c.in-Err-BadLine.ensures.refused in
    let found = c.in_ok-found.ensures.ok_part in
    let told = c.in_ok-text.ensures.ok_part in
    inr (
      refl,
      λ text h.
          let same = one_text (λ v. value_view v.now) (λ s. s.now) found c.get.ensures told c.as_str.ensures h.0 ∙ sym c.as_bytes.ensures.value in
          not_all bad (subst (λ t. All IsReadable (lines t)) same h.1),
    )

pub returns-in-Ok-from_slice-clause-ok : goal.returns-in-Ok-from_slice-clause-ok
returns-in-Ok-from_slice-clause-ok c =
    let bytes : ◌≡◌ {A = List ℕ} c.in-Ok-from_slice.bytes.items c.in_ok-text.text.now = c.in-Ok-from_slice.ensures.items ∙ c.as_bytes-in-Ok.ensures.value in
    let text : ◌≡◌ {A = List ℕ} c.as_bytes.result.now c.in_ok-text.text.now = c.as_bytes.ensures.value in
    let same : ◌≡◌ {A = List ℕ} c.as_bytes.result.now c.in-Ok-from_slice.bytes.items = text ∙ sym bytes in
    let found = c.in_ok-found.ensures.ok_part in
    let told = c.in_ok-text.ensures.ok_part in
    let held : ◌≡◌ {A = Option Json} (param c.args.name.now (given c.args.self.now)) (Some (value_view c.in_ok-found.found.now)) = sym c.get.ensures ∙ ap (option_map (λ v. value_view v.now)) found in
    let read : as_str (value_view c.in_ok-found.found.now) ≡ Some c.in_ok-text.text.now = sym c.as_str.ensures ∙ ap (option_map (λ s. s.now)) told in
    (ap (option_and_then as_str) held ∙ read ∙ ap (λ (l : List ℕ). Some l) (sym bytes), subst (λ (t : List ℕ). All IsReadable (lines t)) same c.in-Ok.ensures.readable)
