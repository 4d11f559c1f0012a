-- What is wrong with a block before it is connected.
use Rattle.std.specs.Prelude.{ℕ, not, if◌then◌else◌, Option, Some, None}
use Rattle.std.specs.Option.{option_or}
use Rattle.txn.specs.declared.reason.Reason.{Reason}
use Rattle.txn.specs.declared.reason.Reason.TheVariants.{ParentNotFound, ParentInvalid}
use Rattle.tree.specs.Branches.{branch, blocks_at, place_of}
use Rattle.tree.specs.State.{State, has_no_mark}
use Rattle.model.specs.Rules.{Rules}

module _ {B I : Type 0} (r : Rules B I) where
  -- the first fault of a block on this parent
  unfoldable pub fault_on : State B → ℕ → B → Option ℕ → Option Reason
  fault_on s now b None = Some ParentNotFound
  fault_on s now b (Some p) =
      if not (has_no_mark s p) then Some ParentInvalid else r.context_fault (blocks_at r.names s.blocks (branch s.blocks p)) now b

  -- by itself, and then on its parent
  unfoldable pub first_fault : State B → ℕ → B → Option Reason
  first_fault s now b = option_or (r.alone_fault b) (fault_on s now b (place_of r.names s.blocks (r.names.parent_of b)))
