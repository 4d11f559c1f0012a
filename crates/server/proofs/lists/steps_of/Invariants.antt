-- They are of the texts before this one.
use Rattle.std.proofs.Common.{◌≡◌, map, take}
use Rattle.json.specs.Json.{object}
use Rattle.serving.specs.Answers.{step_members}
use Rattle.server.specs.inside.Lists.{text_json}
use Rattle.server.proofs.lists.steps_of.Given as goal

abbrev pub invariant-loop-text : goal.invariant-loop-text
invariant-loop-text l = map (λ step. object (step_members step)) l.steps.items ≡ map text_json (take l.text-index l.texts)
