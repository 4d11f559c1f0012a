use Rattle.std.specs.Prelude.{List, map, IfOk, codes}
use Rattle.std.proofs.Common.{◌≡◌, ◌∙◌, ap, subst, sym}
use Rattle.json.specs.Json.{array, object, no_members, member}
use Rattle.model.specs.declared.entry.Entry.{Entry}
use Rattle.serving.specs.Answers.{step_items, step_members}
use Rattle.serving.specs.declared.answer.Step.{Step}
use Rattle.server.specs.inside.Lists.{AreSteps, text_json}
use Rattle.server.specs.inside.Answers.{IsReadLine, TellsSteps}
use Rattle.server.specs.declared.lists.EntryText.{EntryText}
use Rattle.server.proofs.Steps.{steps_told}
use Rattle.server.proofs.lists.listed.Goals as goal

pub returns-in-Ok-steps_of : goal.returns-in-Ok-steps_of
returns-in-Ok-steps_of c =
    let texts = c.in-Ok-texts_of.texts.items in
    let steps = c.in-Ok-steps_of.steps.items in
    let are = subst (λ (es : List Entry). AreSteps c.args.first es (map text_json texts)) c.as_slice.ensures.value c.in-Ok-texts_of.ensures in
    let same : map (λ (step : Step). object (step_members step)) steps ≡ map text_json texts =
    c.in-Ok-steps_of.ensures ∙ ap (λ (l : List EntryText). map text_json l) c.as_slice-in-Ok.ensures.value in
    let told = subst (λ (l : List Step). IfOk c.read.result (λ line. IsReadLine c.args.blank c.in-Ok.field-0.at (member (codes "answer") (array (step_items l)) no_members) line.items))
    c.as_slice-in-Ok-2.ensures.value c.read.ensures in
    subst (λ r. IfOk c.read.result (λ line. TellsSteps c.args.first c.args.blank r line.items)) (sym c.in-Ok.is)
    (steps_told c.args.first c.args.blank c.in-Ok.field-0.at c.in-Ok.field-0.value.items texts steps c.read.result are same told)
