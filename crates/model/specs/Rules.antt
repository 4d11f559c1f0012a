-- What the chain asks of its blocks. Nothing else of a block matters to it.
use Rattle.std.specs.Prelude.{ℕ, List, Option}
use Rattle.txn.specs.declared.reason.Reason.{Reason}
use Rattle.tree.specs.BlockNames.{Naming}

-- B is what a block is, and I what its id is
pub record Rules (B I : Type 0) : Type 0 where
  pub names : Naming B I
  -- the first fault of a block by itself
  pub alone_fault : B → Option Reason
  -- the first fault of a block on this branch, the newest block first, at this moment
  pub context_fault : List B → ℕ → B → Option Reason
  -- the first fault of connecting it to the coins that the blocks of this branch leave
  pub connect_fault : List B → B → Option Reason
