-- Words for taking active blocks back. No public clause needs them.
use Rattle.std.specs.Prelude.{◌≡◌, ℕ, suc, ◌+◌, ◌-◌, ◌<◌, ◌≤◌, List, [], length}
use Rattle.std.proofs.Common.{get_or}
use Rattle.block.specs.declared.block.Block.{Block}
use Rattle.coins.specs.declared.coin.Coin.{Coin}
use Rattle.tree.specs.Branches.{Blocks, height, parent_at}
use Rattle.activate.specs.Lookups.{undo_at}
use Rattle.activate.specs.inside.Paths.{WasConnected}

-- the place at a height of a branch
abbrev pub place_at : List ℕ → ℕ → ℕ
place_at places h = get_or places h 0

-- these are the places of a branch by height, and each of its blocks but genesis was connected
pub record IsConnectedBranch (t : Blocks Block) (places : List ℕ) : Type 0 where
  pub kept : (h : ℕ) → h < length places → place_at places h < suc (length t)
  pub high : (h : ℕ) → h < length places → height t (place_at places h) ≡ h
  pub parent : (h : ℕ) → suc h < length places → parent_at t (place_at places (suc h)) ≡ place_at places h
  pub connected : (h : ℕ) → suc h < length places → WasConnected t (place_at places (suc h))

-- this is what the blocks of a branch spend, from above this height on, the lowest first
abbrev pub IsUndoAbove : Blocks Block → List ℕ → ℕ → List (List (List Coin)) → Type 0
IsUndoAbove t places low undo = (i : ℕ) → i < length undo → get_or undo i [] ≡ undo_at t (place_at places (suc (low + i)))

-- each of these blocks was connected, and this is what all of them but genesis spend, packed, and what the highest do
pub record CanDisconnect (t : Blocks Block) (places : List ℕ) (undo packed : List (List (List Coin))) : Type 0 where
  pub branch : IsConnectedBranch t places
  pub long : length places ≡ suc (length packed)
  pub few : length undo ≤ length packed
  pub highest : IsUndoAbove t places (length packed - length undo) undo
  pub all : IsUndoAbove t places 0 packed
