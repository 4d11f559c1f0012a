-- The active branch by height, as it is looked at. No public clause needs these words.
use Rattle.std.specs.Prelude.{◌≡◌, ◌≤◌, length, reverse}
use Rattle.tree.specs.Branches.{branch, height}
use Rattle.activate.specs.CoreState.{CoreState}
use Rattle.activate.specs.declared.lookups.ActiveBlocks.{ActiveBlocks}
use Rattle.activate.specs.inside.Kept.{highest_undo}

-- its places, and what all its blocks but genesis spent
pub record AreByHeight (b : ActiveBlocks) : Type 0 where
  pub kept : b.active ≤ length b.tree.now.blocks
  pub places_are : b.branch.now ≡ reverse (branch b.tree.now.blocks b.active)
  pub packed_are : b.packed.now ≡ highest_undo b.tree.now.blocks b.active (height b.tree.now.blocks b.active)

-- those of a core
pub record AreActive (c : CoreState) (b : ActiveBlocks) : Type 0 where
  pub state_is : b.tree.now ≡ c.state
  pub active_is : b.active ≡ c.active
  pub by_height : AreByHeight b
