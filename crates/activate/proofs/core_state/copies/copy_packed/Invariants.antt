use Rattle.std.proofs.Common.{◌≡◌, ◌≤◌, take, vec_capacity}
use Rattle.activate.proofs.core_state.copies.copy_packed.Given as goal

abbrev pub invariant-loop-undo : goal.invariant-loop-undo
invariant-loop-undo l = record {
  items : l.copy.items ≡ take l.undo-index l.kept;
  room : l.room ≤ vec_capacity l.copy;
}
