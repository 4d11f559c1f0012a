-- A chainstate without its coins: the tree, which of its blocks is active, and the heights of soft forks.
use Rattle.std.specs.Prelude.{◌≡◌, ℕ, suc, ◌+◌, ◌-◌, ◌<◌, nat_le, if◌then◌else◌, List, Option, None, Some}
use Rattle.block.specs.declared.block.Block.{Block}
use Rattle.block.specs.BlockOfBytes.{block_of_bytes}
use Rattle.block.specs.StoredBlock.{genesis_alone}
use Rattle.signatures.specs.Triple.{Triples}
use Rattle.coins.specs.Coins.{Coins}
use Rattle.rules.specs.declared.params.Params.{Params}
use Rattle.tree.specs.Branches.{Blocks, block_at, branch, height, parent_at, blocks_at}
use Rattle.tree.specs.Tips.{last_shared}
use Rattle.tree.specs.State.{State, opening}
use Rattle.tree.specs.Names.{names}
use Rattle.model.specs.Settle.{active}
use Rattle.model.specs.Replay.{replay}
use Rattle.model.specs.Regtest.{ledger, regtest}
use Rattle.model.specs.StateInvariant.{IsSettled, AllKept}

pub record CoreState : Type 0 where
  pub params : Params
  pub state : State Block
  -- the place of the active block
  pub active : ℕ
  -- of how many of the highest active blocks undo is kept
  pub undo_kept : ℕ

-- genesis alone
abbrev pub opened_core : Params → CoreState
opened_core params = record { params = params; state = opening; active = 0; undo_kept = 0 }

-- the blocks of the branch of a place, the newest first
abbrev pub branch_blocks : Blocks Block → ℕ → List Block
branch_blocks t p = blocks_at names t (branch t p)

-- the coins that the branch of a place leaves
abbrev pub coins_after : Blocks Block → ℕ → Coins
coins_after t p = replay ledger (branch_blocks t p)

-- the coins that the active branch leaves
abbrev pub coins_of : CoreState → Coins
coins_of c = coins_after c.state.blocks c.active

-- under these valid signatures it is as commands lead to: the state is settled, each block was kept by the rules and on the
-- block that its header names, and the active block is the best of those that can be active
pub record Follows (c : CoreState) (triples : Triples) : Type 0 where
  pub sound : IsSettled (regtest c.params triples) c.state
  pub kept : AllKept (regtest c.params triples) c.state.blocks
  pub active_is : c.active ≡ active (regtest c.params triples) c.state

-- the same with coins of its own
pub record WithCoins : Type 0 where
  pub core : CoreState
  pub coins : Coins

-- the same, and the coins are those that the active branch leaves
pub record IsChainstate (c : WithCoins) (triples : Triples) : Type 0 where
  pub follows : Follows c.core triples
  pub coins_are : c.coins ≡ coins_of c.core

-- what is kept of the block that has a place: the bytes that spell it, and nothing of genesis. Without a place there is nothing
abbrev pub IsBlockOf : Blocks Block → Option ℕ → Option (List ℕ) → Type 0
IsBlockOf t None found = found ≡ None
IsBlockOf t (Some p) None = block_at names t p ≡ genesis_alone
IsBlockOf t (Some p) (Some bytes) = block_of_bytes bytes ≡ Some (block_at names t p)

-- ---- how much undo is kept

-- undo is kept of so many blocks at most (Bitcoin Core's `MIN_BLOCKS_TO_KEEP`)
abbrev pub most_undo : ℕ
most_undo = 288

-- the lesser of two numbers
abbrev pub lesser_of : ℕ → ℕ → ℕ
lesser_of a b = if nat_le a b then a else b

-- where the active block of b is a child of a's, undo is kept of one block more, up to that many
abbrev pub HasOneMore : CoreState → CoreState → Type 0
HasOneMore a b =
    0 < b.active → parent_at b.state.blocks b.active ≡ a.active → b.undo_kept ≡ lesser_of most_undo (suc a.undo_kept)

-- after the active block of b took the place of a's: the undo that was kept of the blocks that both branches share, and the
-- undo of each block above them, up to that many
abbrev pub UndoFollows : CoreState → CoreState → Type 0
UndoFollows a b =
    let t = b.state.blocks in
    let shared = height t (last_shared t a.active b.active) in
    b.undo_kept ≡ lesser_of most_undo ((a.undo_kept - (height t a.active - shared)) + (height t b.active - shared))

-- so it is after a step that led from a to b
pub record KeepsUndo (a b : CoreState) : Type 0 where
  pub one_more : HasOneMore a b
  pub follows : UndoFollows a b
