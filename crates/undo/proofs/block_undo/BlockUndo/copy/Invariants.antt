use Rattle.std.proofs.Common.{◌≡◌, take}
use Rattle.undo.proofs.block_undo.BlockUndo.copy.Given as goal

abbrev pub invariant-loop-spent : goal.invariant-loop-spent
invariant-loop-spent l = l.txs.items ≡ take l.spent-index l.spent-items
