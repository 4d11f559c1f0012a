use Rattle.std.proofs.Common.{◌≡◌, ◌∙◌}
use Rattle.std.proofs.lemmas.List.{take_all}
use Rattle.activate.proofs.new_undo.NewUndo.of.Goals as goal

pub invariant_of-result : goal.invariant_of-result
invariant_of-result c = c.loop-undo.invariant ∙ take_all c.loop-undo.undo-index c.as_slice-undo-items.result.now c.loop-undo-test.false ∙ c.as_slice-undo-items.ensures.value
