use Rattle.std.proofs.Common.{◌≡◌, ◌≤◌, ◌++◌, length}
use Rattle.std.specs.Vec.Iter.{into_iter_items, into_iter_len}
use Rattle.std.specs.VecDeque.{deque_capacity}
use Rattle.activate.specs.inside.ActiveBranch.{last_of}
use Rattle.activate.specs.CoreState.{most_undo}
use Rattle.activate.proofs.active_branch.keep_undo.Given as goal

abbrev pub invariant-loop-undo : goal.invariant-loop-undo
invariant-loop-undo l = record {
  count : into_iter_len l.undo-iterator ≡ length (into_iter_items l.undo-iterator);
  kept : last_of most_undo (l.kept.items ++ into_iter_items l.undo-iterator) ≡ last_of most_undo (l.initial.kept.items ++ l.fn.more.items);
  few : length l.kept.items ≤ most_undo;
  room : deque_capacity l.kept ≡ deque_capacity l.initial.kept;
}
