-- What the core keeps beside the tree. No public clause needs these words.
use Rattle.std.specs.Prelude.{◌≡◌, ℕ, suc, List, [], ◌∷◌, length, map, reverse, take, ◌≤◌}
use Rattle.block.specs.declared.block.Block.{Block}
use Rattle.coins.specs.declared.coin.Coin.{Coin}
use Rattle.tree.specs.Branches.{Blocks, branch, height}
use Rattle.model.specs.Regtest.{medians_of}
use Rattle.activate.specs.CoreState.{branch_blocks, most_undo}
use Rattle.activate.specs.Lookups.{undo_at}

-- of so many of the highest blocks of the branch of a place, the lowest first
unfoldable pub highest_undo : Blocks Block → ℕ → ℕ → List (List (List Coin))
highest_undo t p n = reverse (map (undo_at t) (take n (branch t p)))

-- the active branch by height: its places, their medians time past, the undo of the highest, and the packed undo of all, but for
-- genesis
pub record IsBranch (t : Blocks Block) (p : ℕ) (places medians : List ℕ) (undo packed : List (List (List Coin))) : Type 0 where
  pub places_are : places ≡ reverse (branch t p)
  pub medians_are : medians ≡ reverse (medians_of (branch_blocks t p))
  pub undo_is : undo ≡ highest_undo t p (length undo)
  pub undo_few : length undo ≤ most_undo
  pub undo_above : length undo ≤ height t p
  pub packed_is : packed ≡ highest_undo t p (height t p)

-- so many places, medians and blocks' undo can be kept without more memory: of the branch of each kept block
pub record HasRoom (t : Blocks Block) (places medians undo packed : ℕ) : Type 0 where
  pub for_places : suc (length t) ≤ places
  pub for_medians : suc (length t) ≤ medians
  pub for_undo : most_undo ≤ undo
  pub for_packed : length t ≤ packed

-- medians that were lent, or all of them, where there are any of one's own
abbrev pub medians_seen : List ℕ → List ℕ → List ℕ
medians_seen lent [] = lent
medians_seen lent (m ∷ own) = m ∷ own
