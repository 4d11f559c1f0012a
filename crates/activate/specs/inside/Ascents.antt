-- Words for the walk up a path, block by block. No public clause needs them.
use Rattle.std.specs.Prelude.{◌≡◌, ℕ, ◌<◌, ◌≤◌, true, List, [], ◌∷◌, length, map, reverse, Option, Some, None, IfSome}
use Rattle.hash.specs.declared.id.Id.{Id}
use Rattle.block.specs.declared.block.Block.{Block}
use Rattle.coins.specs.declared.coin.Coin.{Coin}
use Rattle.coins.specs.Coins.{Coins, Layer}
use Rattle.tree.specs.Branches.{Blocks, on}
use Rattle.tree.specs.laws.Above.{above}
use Rattle.model.specs.Rules.{Rules}
use Rattle.model.specs.Valid.{branch_connects}
use Rattle.model.specs.Regtest.{medians_of}
use Rattle.activate.specs.CoreState.{branch_blocks, coins_after}
use Rattle.activate.specs.Lookups.{undo_at}
use Rattle.activate.specs.Wants.{AreWantedAt}
use Rattle.signatures.specs.Known.{Known}
use Rattle.signatures.specs.Triple.{Triple}
use Rattle.queue.specs.FirstAnswer.{AreOfBoth}
use Rattle.rules.specs.declared.params.Params.{Params}

-- the highest of these places above the fork f, or f where there is none
abbrev pub top_of : ℕ → List ℕ → ℕ
top_of f [] = f
top_of f (x ∷ up) = x

-- these are the places from one down to the fork f, without f
pub record LeadsUp (t : Blocks Block) (f : ℕ) (up : List ℕ) : Type 0 where
  pub kept : top_of f up ≤ length t
  pub shared : on t (top_of f up) f ≡ true
  pub all : up ≡ above t (top_of f up) f

-- a block above the fork f on the branch of p wants them
pub record AreWantedAbove (params : Params) (t : Blocks Block) (f p : ℕ) (known : Known) (list : List Triple) : Type 0 where
  pub place : ℕ
  pub above : f < place
  pub there : on t p place ≡ true
  pub wanted : AreWantedAt params t known place list

-- the blocks of the branch of p were applied to this layer over these coins, and these are the medians of that branch
pub record IsApplied (t : Blocks Block) (p : ℕ) (base : Coins) (layer : Layer) (medians : List ℕ) : Type 0 where
  pub left : layer.coins ≡ coins_after t p
  pub base_is : layer.base ≡ base
  pub medians_are : medians ≡ reverse (medians_of (branch_blocks t p))

-- each of these blocks, the highest first, connects: what they spend, the lowest first, the layer over these coins to which they
-- were applied, and the medians of their branch
pub record IsTop (r : Rules Block Id) (t : Blocks Block) (f : ℕ) (up : List ℕ) (base : Coins) (undo : List (List (List Coin))) (layer : Layer) (medians : List ℕ) : Type 0 where
  pub good : branch_connects r t (top_of f up) ≡ true
  pub spent : undo ≡ reverse (map (undo_at t) up)
  pub applied : IsApplied t (top_of f up) base layer medians

-- ---- what is wanted on the way

-- what is wanted so far, what the next block wants beside it, and what is wanted then; told is how a stop tells
abbrev pub AreMore : {Stop : Type 0} → (Stop → Option (List Triple)) → Option Stop → Option Stop → Option Stop → Type 0
AreMore told so_far None found = found ≡ so_far
AreMore told None (Some next) found = found ≡ Some next
AreMore {Stop} told (Some first) (Some next) found =
    (both : Stop) × (found ≡ Some both) × IfSome (told both) (AreOfBoth (told first) (told next))
