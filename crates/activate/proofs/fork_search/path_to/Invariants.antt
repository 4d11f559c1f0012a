use Rattle.std.proofs.Common.{◌≡◌, ◌≤◌, ◌++◌, length}
use Rattle.tree.specs.Tips.{last_shared}
use Rattle.tree.specs.laws.Above.{above}
use Rattle.activate.proofs.fork_search.path_to.Given as goal

abbrev pub invariant-down : goal.invariant-down
invariant-down l = record {
  kept : l.next ≤ length l.active_branch.tree.now.blocks;
  same : last_shared l.active_branch.tree.now.blocks l.active_branch.active l.next ≡ last_shared l.active_branch.tree.now.blocks l.active_branch.active l.place;
  up : l.up.items ++ above l.active_branch.tree.now.blocks l.next (last_shared l.active_branch.tree.now.blocks l.active_branch.active l.next) ≡ above l.active_branch.tree.now.blocks l.place (last_shared l.active_branch.tree.now.blocks l.active_branch.active l.place);
}

abbrev pub decreases-down : goal.decreases-down
decreases-down l = l.next
