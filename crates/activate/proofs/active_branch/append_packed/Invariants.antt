use Rattle.std.proofs.Common.{◌≡◌, ◌++◌, length, vec_capacity}
use Rattle.std.specs.Vec.Iter.{into_iter_items, into_iter_len}
use Rattle.activate.proofs.active_branch.append_packed.Given as goal

abbrev pub invariant-loop-undo : goal.invariant-loop-undo
invariant-loop-undo l = record {
  count : into_iter_len l.undo-iterator ≡ length (into_iter_items l.undo-iterator);
  kept : l.kept.items ++ into_iter_items l.undo-iterator ≡ l.initial.kept.items ++ l.fn.more.items;
  room : vec_capacity l.kept ≡ vec_capacity l.initial.kept;
}
