-- Words for what `Core` does inside when another block becomes the active one. No public clause needs them.
use Rattle.std.specs.Prelude.{◌≡◌, ℕ, ◌<◌, ◌≤◌, true, false, List, ◌∷◌, ◌++◌, length, map, reverse, Some}
use Rattle.txn.specs.declared.reason.Reason.{Reason}
use Rattle.hash.specs.declared.id.Id.{Id}
use Rattle.block.specs.declared.block.Block.{Block}
use Rattle.coins.specs.Changes.{AreChanges, after_changes}
use Rattle.coins.specs.Coins.{Coins}
use Rattle.connect.specs.BlockContext.{Setting}
use Rattle.connect.specs.ConnectedBlock.{IsConnected}
use Rattle.tree.specs.Branches.{Blocks, on, height, parent_at, block_at}
use Rattle.tree.specs.Names.{names}
use Rattle.tree.specs.laws.Above.{above, IsShared}
use Rattle.activate.specs.declared.path.BranchPath.{BranchPath}
use Rattle.activate.specs.declared.path.Reorganisation.{Reorganisation}
use Rattle.activate.specs.declared.path.FailedTry.{FailedTry}
use Rattle.activate.specs.declared.path.TryOutcome.{TryOutcome}
use Rattle.activate.specs.declared.path.TryOutcome.TheVariants.{Succeeds, Fails}
use Rattle.model.specs.Rules.{Rules}
use Rattle.model.specs.Valid.{fault, branch_connects}
use Rattle.model.specs.Faults.{IsFirstFault}
use Rattle.activate.specs.CoreState.{coins_after}
use Rattle.model.specs.StateInvariant.{AllKept}
use Rattle.activate.specs.declared.path.ActiveBranch.{ActiveBranch}
use Rattle.activate.specs.Lookups.{undo_at}
use Rattle.activate.specs.inside.Kept.{IsBranch}
use Rattle.activate.specs.Wants.{AreWantedAt}
use Rattle.signatures.specs.Known.{Known}
use Rattle.signatures.specs.Triple.{Triple}
use Rattle.rules.specs.declared.params.Params.{Params}

-- the block at a place was connected to the coins of its parent's branch
pub record WasConnected (t : Blocks Block) (p : ℕ) : Type 0 where
  pub setting : Setting
  pub high : setting.height ≡ height t p
  pub connected : IsConnected setting (coins_after t (parent_at t p)) (block_at names t p) (coins_after t p) (undo_at t p)

-- so was each of its branch, but for genesis
abbrev pub AreConnected : Blocks Block → ℕ → Type 0
AreConnected t p = (x : ℕ) → 0 < x → on t p x ≡ true → WasConnected t x

-- these and one block more, on this parent
abbrev pub one_more : Blocks Block → Block → ℕ → Blocks Block
one_more t b parent = record { block = b; parent = parent } ∷ t

-- a block on the branch of p, but not on a's, wants them
pub record AreWantedOnWay (params : Params) (t : Blocks Block) (a p : ℕ) (known : Known) (list : List Triple) : Type 0 where
  pub place : ℕ
  pub there : on t p place ≡ true
  pub apart : on t a place ≡ false
  pub wanted : AreWantedAt params t known place list

-- from the active block at a to the block at p: down to the last block that their branches share, and up from there
pub record IsPath (t : Blocks Block) (a p : ℕ) (path : BranchPath) : Type 0 where
  pub shared : IsShared t a p path.fork
  pub high : path.height ≡ height t path.fork
  pub up : path.up.items ≡ above t p path.fork

-- the active branch with what is kept of it, over its coins
pub record IsActiveBranch (b : ActiveBranch) (coins : Coins) : Type 0 where
  pub kept : b.active ≤ length b.tree.now.blocks
  pub branch : IsBranch b.tree.now.blocks b.active b.branch.now b.medians.now b.undo.now.items b.packed.now
  pub coins_are : coins ≡ coins_after b.tree.now.blocks b.active

-- each block was kept by the rules, and the branch of a is valid
pub record IsValid (r : Rules Block Id) (t : Blocks Block) (a : ℕ) : Type 0 where
  pub all : AllKept r t
  pub good : branch_connects r t a ≡ true

-- each block of the branch of p connects: what its blocks above the fork spend, the lowest first, and how the coins
-- of its branch differ from the active ones
pub record LeadsTo (r : Rules Block Id) (t : Blocks Block) (a p : ℕ) (move : Reorganisation) : Type 0 where
  pub path : IsPath t a p move.path
  pub good : branch_connects r t p ≡ true
  pub undo : move.undo ≡ reverse (map (undo_at t) move.path.up.items)
  pub changes : AreChanges (coins_after t a) (coins_after t p) move.changes
  pub laid : after_changes (coins_after t a) move.changes ≡ coins_after t p

-- of the branch of p so many of the blocks above a fork connect, the highest of which comes first, and the next one
-- doesn't
pub record IsStop (r : Rules Block Id) (t : Blocks Block) (p : ℕ) (up : List ℕ) (passed : ℕ) (reason : Reason) : Type 0 where
  pub front : List ℕ
  pub place : ℕ
  pub rest : List ℕ
  pub parts : reverse up ≡ front ++ (place ∷ rest)
  pub counted : passed ≡ length front
  pub first : IsFirstFault r t p place
  pub broken : fault r t place ≡ Some reason

-- a try of the block at p fails
pub record FailsAt (r : Rules Block Id) (t : Blocks Block) (a p : ℕ) (failed : FailedTry) : Type 0 where
  pub path : IsPath t a p failed.path
  pub stop : IsStop r t p failed.path.up.items failed.passed failed.reason

abbrev pub IsTryOutcome : Rules Block Id → Blocks Block → ℕ → ℕ → TryOutcome → Type 0
IsTryOutcome r t a p (Succeeds move) = LeadsTo r t a p move
IsTryOutcome r t a p (Fails failed) = FailsAt r t a p failed
