use Rattle.std.proofs.Common.{◌≡◌, ◌∙◌}
use Rattle.std.proofs.lemmas.List.{take_all}
use Rattle.undo.proofs.block_undo.BlockUndo.copy.Goals as goal

pub returns : goal.returns
returns c = c.loop-spent.invariant ∙ take_all c.loop-spent.spent-index c.as_slice-spent-items.result.now c.loop-spent-test.false ∙ c.as_slice-spent-items.ensures.value ∙ c.self.view_is
