-- The kept blocks and their branches (Bitcoin Core's `CBlockIndex`). A block is named by its place in the
-- order of arrival; genesis has place 0.
use Rattle.std.specs.Prelude.{ℕ, zero, suc, ◌==◌, Bool, if◌then◌else◌, List, [], ◌∷◌, length, map, Option, None, Some}
use Rattle.std.specs.List.{list_any}
use Rattle.tree.specs.BlockNames.{Naming}

-- a kept block, and the place of its parent
pub record Kept (B : Type 0) : Type 0 where
  pub block : B
  pub parent : ℕ

-- the blocks that came after genesis, the newest first
abbrev pub Blocks : Type 0 → Type 0
Blocks B = List (Kept B)

-- n and all below it
unfoldable pub down_from : ℕ → List ℕ
down_from zero = 0 ∷ []
down_from (suc n) = suc n ∷ down_from n

abbrev pub first_of : List ℕ → ℕ
first_of [] = 0
first_of (p ∷ ps) = p

abbrev pub rest_of : List ℕ → List ℕ
rest_of [] = []
rest_of (p ∷ ps) = ps

-- x is among the places
abbrev pub has : List ℕ → ℕ → Bool
has set x = list_any (λ y. y == x) set

module _ {B : Type 0} where
  -- of all kept blocks, the newest first
  abbrev pub places : Blocks B → List ℕ
  places t = down_from (length t)

  -- the places from p down to genesis
  unfoldable pub branch : Blocks B → ℕ → List ℕ
  branch [] p = 0 ∷ []
  branch (k ∷ older) p = if suc (length older) == p then p ∷ branch older k.parent else branch older p

  -- the same without p itself
  unfoldable pub before : Blocks B → ℕ → List ℕ
  before t p = rest_of (branch t p)

  -- x is on the branch of c
  unfoldable pub on : Blocks B → ℕ → ℕ → Bool
  on t c x = has (branch t c) x

  unfoldable pub height : Blocks B → ℕ → ℕ
  height t p = length (before t p)

  -- the place of the parent of p; 0 for genesis
  unfoldable pub parent_at : Blocks B → ℕ → ℕ
  parent_at t p = first_of (before t p)

module _ {B I : Type 0} (names : Naming B I) where
  -- the block at a place
  unfoldable pub block_at : Blocks B → ℕ → B
  block_at [] p = names.genesis
  block_at (k ∷ older) p = if suc (length older) == p then k.block else block_at older p

  unfoldable pub id_at : Blocks B → ℕ → I
  id_at [] p = names.genesis_id
  id_at (k ∷ older) p = if suc (length older) == p then names.id_of k.block else id_at older p

  abbrev pub blocks_at : Blocks B → List ℕ → List B
  blocks_at t ps = map (block_at t) ps

  -- the place of the kept block with this id
  unfoldable pub place_of : Blocks B → I → Option ℕ
  place_of [] i = if names.same_id names.genesis_id i then Some 0 else None
  place_of (k ∷ older) i = if names.same_id (names.id_of k.block) i then Some (suc (length older)) else place_of older i
