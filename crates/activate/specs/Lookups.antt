-- What is asked of kept blocks: where one stands, where two branches part, and what a block spent. An id that isn't kept has
-- no answer.
use Rattle.std.specs.Prelude.{ℕ, suc, ◌-◌, ◌==◌, if◌then◌else◌, List, Option, None, Some}
use Rattle.std.specs.List.{find}
use Rattle.std.specs.Option.{option_map, option_and_then}
use Rattle.hash.specs.declared.id.Id.{Id}
use Rattle.block.specs.Grammar.{header}
use Rattle.block.specs.declared.block.Block.{Block}
use Rattle.coins.specs.declared.coin.Coin.{Coin}
use Rattle.connect.specs.Turns.{undo_of}
use Rattle.tree.specs.Branches.{Blocks, branch, on, height, parent_at, block_at, id_at, place_of}
use Rattle.tree.specs.Names.{names}
use Rattle.tree.specs.State.{State}
use Rattle.tree.specs.Tips.{last_shared}
use Rattle.model.specs.Rules.{Rules}
use Rattle.model.specs.Settle.{active}
use Rattle.activate.specs.CoreState.{coins_after}

-- ---- by places

-- the block of a branch at a height (Bitcoin Core's `CBlockIndex::GetAncestor`); none is above its last
unfoldable pub ancestor_at : {B : Type 0} → Blocks B → ℕ → ℕ → Option ℕ
ancestor_at t p h = find (λ x. height t x == h) (branch t p)

-- how many blocks the branch of a has from this one on, with both ends; none where it isn't on that branch
unfoldable pub depth_at : {B : Type 0} → Blocks B → ℕ → ℕ → Option ℕ
depth_at t a p = if on t a p then Some (suc (height t a - height t p)) else None

-- what the transactions of the block at a place spend, but for the first (Bitcoin Core's `CBlockUndo`)
unfoldable pub undo_at : Blocks Block → ℕ → List (List Coin)
undo_at t p = undo_of (height t p) (coins_after t (parent_at t p)) (block_at names t p).txs

-- the same of a block on the branch of a
unfoldable pub spent_at : Blocks Block → ℕ → ℕ → Option (List (List Coin))
spent_at t a p = if on t a p then Some (undo_at t p) else None

-- ---- by ids

abbrev pub height_of : Blocks Block → Id → Option ℕ
height_of t id = option_map (height t) (place_of names t id)

-- the 80 bytes of a block's header
abbrev pub header_of : Blocks Block → Id → Option (List ℕ)
header_of t id = option_map (λ p. header.spell (block_at names t p).header) (place_of names t id)

-- the block at a height of the branch of a block
abbrev pub ancestor_of : Blocks Block → Id → ℕ → Option Id
ancestor_of t id h = option_map (id_at names t) (option_and_then (λ p. ancestor_at t p h) (place_of names t id))

-- the last block that the branches of two share
abbrev pub fork_of : Blocks Block → Id → Id → Option Id
fork_of t one other =
    option_and_then (λ a. option_map (λ p. id_at names t (last_shared t a p)) (place_of names t other)) (place_of names t one)

-- ---- of the active branch

module _ (r : Rules Block Id) (s : State Block) where
  -- the block at a height (`getblockhash`)
  abbrev pub active_id : ℕ → Option Id
  active_id h = option_map (id_at names s.blocks) (ancestor_at s.blocks (active r s) h)

  -- how many active blocks there are from this one on, with both ends; none where it isn't active (`getblockheader`)
  abbrev pub confirmations : Id → Option ℕ
  confirmations id = option_and_then (depth_at s.blocks (active r s)) (place_of names s.blocks id)

  -- what the transactions of an active block but the first spent, by its inputs' order; none of a block that isn't active
  abbrev pub spent_by : Id → Option (List (List Coin))
  spent_by id = option_and_then (spent_at s.blocks (active r s)) (place_of names s.blocks id)
