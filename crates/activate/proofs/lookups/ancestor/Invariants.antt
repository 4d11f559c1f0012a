use Rattle.std.proofs.Common.{◌≡◌, ◌≤◌, length}
use Rattle.activate.specs.Lookups.{ancestor_at}
use Rattle.activate.proofs.lookups.ancestor.Given as goal

abbrev pub invariant-down : goal.invariant-down
invariant-down l = record {
  kept : l.next ≤ length l.tree.blocks;
  same : ancestor_at l.tree.blocks l.next l.height ≡ ancestor_at l.tree.blocks l.place l.height;
}

abbrev pub decreases-down : goal.decreases-down
decreases-down l = l.next
