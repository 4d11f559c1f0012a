-- Which blocks connect, and which branches are valid (Bitcoin Core's `ConnectBlock`).
use Rattle.std.specs.Prelude.{ℕ, Bool, not, ◌&&◌, List, [], ◌∷◌, Option, None, is_none}
use Rattle.std.specs.List.{list_all}
use Rattle.txn.specs.declared.reason.Reason.{Reason}
use Rattle.tree.specs.Branches.{Blocks, branch, before, block_at, blocks_at}
use Rattle.model.specs.Rules.{Rules}

module _ {B I : Type 0} (r : Rules B I) where
  -- of a block over the blocks before it; genesis, which has none before it, has no fault
  unfoldable pub fault_over : List B → B → Option Reason
  fault_over [] b = None
  fault_over (parent ∷ older) b = r.connect_fault (parent ∷ older) b

  unfoldable pub fault : Blocks B → ℕ → Option Reason
  fault t p = fault_over (blocks_at r.names t (before t p)) (block_at r.names t p)

  unfoldable pub connects : Blocks B → ℕ → Bool
  connects t p = is_none (fault t p)

  -- each block of the branch connects
  unfoldable pub branch_connects : Blocks B → ℕ → Bool
  branch_connects t c = list_all (connects t) (branch t c)

  -- the first block of its branch that doesn't connect
  unfoldable pub first_to_fail : Blocks B → ℕ → Bool
  first_to_fail t x = not (connects t x) && list_all (connects t) (before t x)
