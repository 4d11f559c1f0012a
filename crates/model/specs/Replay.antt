-- What a branch leaves: the replay of its blocks from genesis.
use Rattle.std.specs.Prelude.{ℕ, List, [], ◌∷◌, length}
use Rattle.tree.specs.Branches.{Blocks, branch, blocks_at}
use Rattle.tree.specs.State.{State}
use Rattle.model.specs.Rules.{Rules}
use Rattle.model.specs.Settle.{active}

-- C is what coins are
pub record Ledger (B C : Type 0) : Type 0 where
  -- no coins
  pub empty : C
  -- the coins after a block of this height
  pub after : C → B → ℕ → C

-- after a branch, the newest block first; genesis adds nothing
unfoldable pub replay : {B C : Type 0} → Ledger B C → List B → C
replay ledger [] = ledger.empty
replay ledger (genesis ∷ []) = ledger.empty
replay ledger (b ∷ parent ∷ older) = ledger.after (replay ledger (parent ∷ older)) b (length (parent ∷ older))

module _ {B I C : Type 0} (r : Rules B I) (ledger : Ledger B C) where
  -- of the branch of a place
  abbrev pub coins_at : Blocks B → ℕ → C
  coins_at t p = replay ledger (blocks_at r.names t (branch t p))

  -- of the active branch
  abbrev pub coins : State B → C
  coins s = coins_at s.blocks (active r s)
