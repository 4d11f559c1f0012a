use Rattle.std.proofs.Common.{◌≡◌, take}
use Rattle.activate.proofs.new_undo.NewUndo.of.Given as goal

abbrev pub invariant-loop-undo : goal.invariant-loop-undo
invariant-loop-undo l = l.packed.items ≡ take l.undo-index l.undo-items
