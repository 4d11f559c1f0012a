use Rattle.std.proofs.Common.{◌≡◌, ◌≤◌, take}
use Rattle.std.specs.VecDeque.{deque_capacity}
use Rattle.activate.specs.CoreState.{most_undo}
use Rattle.activate.proofs.core_state.copies.copy_undo.Given as goal

abbrev pub invariant-loop-index : goal.invariant-loop-index
invariant-loop-index l = record {
  items : l.copy.items ≡ take l.index l.kept.items;
  room : most_undo ≤ deque_capacity l.copy;
}
