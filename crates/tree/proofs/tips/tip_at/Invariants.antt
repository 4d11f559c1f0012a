use Rattle.std.proofs.Common.{◌≡◌, ◌≤◌, length}
use Rattle.tree.specs.Branches.{height}
use Rattle.tree.specs.Tips.{last_shared}
use Rattle.tree.proofs.tips.tip_at.Given as goal

abbrev pub invariant-down : goal.invariant-down
invariant-down l = record {
  kept : l.shared ≤ length l.tree.blocks;
  same : last_shared l.tree.blocks l.best l.shared ≡ last_shared l.tree.blocks l.best l.place;
  low : height l.tree.blocks l.shared ≤ height l.tree.blocks l.place;
}

abbrev pub decreases-down : goal.decreases-down
decreases-down l = l.shared
