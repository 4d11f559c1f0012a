use Rattle.std.proofs.Common.{◌≡◌, ◌+◌, ◌≤◌, length}
use Rattle.tree.specs.Tips.{last_shared}
use Rattle.activate.proofs.lookups.fork.Given as goal

abbrev pub invariant-down : goal.invariant-down
invariant-down l = record {
  left_kept : l.left ≤ length l.tree.blocks;
  right_kept : l.right ≤ length l.tree.blocks;
  same : last_shared l.tree.blocks l.left l.right ≡ last_shared l.tree.blocks l.one l.other;
}

abbrev pub decreases-down : goal.decreases-down
decreases-down l = l.left + l.right
