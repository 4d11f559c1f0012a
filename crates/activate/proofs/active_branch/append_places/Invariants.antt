use Rattle.std.proofs.Common.{◌≡◌, ◌++◌, ◌-◌, length, map, reverse, drop, vec_capacity}
use Rattle.activate.specs.inside.ActiveBranch.{median_at}
use Rattle.activate.proofs.active_branch.append_places.Given as goal

abbrev pub invariant-loop-index : goal.invariant-loop-index
invariant-loop-index l = record {
  branch : l.branch.items ≡ l.initial.branch.items ++ reverse (drop (length l.up - l.index) l.up);
  medians : l.medians.items ≡ l.initial.medians.items ++ reverse (map (median_at l.tree.blocks) (drop (length l.up - l.index) l.up));
  branch_room : vec_capacity l.branch ≡ vec_capacity l.initial.branch;
  medians_room : vec_capacity l.medians ≡ vec_capacity l.initial.medians;
}
