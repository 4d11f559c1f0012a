-- Along a fork of regtest's chain: a block that connects can be taken back, which leaves the coins of its parent.
use Rattle.std.proofs.Common.{◌≡◌, ℕ, ◌<◌, ◌≤◌, true, List, length, ap, ◌∙◌, sym}
use Rattle.hash.specs.declared.id.Id.{Id}
use Rattle.block.specs.declared.block.Block.{Block}
use Rattle.signatures.specs.Triple.{Triples}
use Rattle.coins.specs.declared.coin.Coin.{Coin}
use Rattle.coins.specs.Coins.{Coins}
use Rattle.rules.specs.declared.params.Params.{Params}
use Rattle.connect.specs.BlockContext.{Setting}
use Rattle.connect.specs.Turns.{effect, undo_of}
use Rattle.connect.specs.ConnectedBlock.{IsConnected}
use Rattle.tree.specs.Branches.{Blocks, branch, height, parent_at, block_at, blocks_at}
use Rattle.tree.specs.Names.{names}
use Rattle.model.specs.Rules.{Rules}
use Rattle.model.specs.Valid.{connects}
use Rattle.model.specs.Replay.{coins_at}
use Rattle.model.specs.Regtest.{setting_on, ledger, regtest}
use Rattle.model.specs.StateInvariant.{AllKept}
use Rattle.model.specs.laws.Bound.{rules_kept}
use Rattle.model.specs.laws.Coins.{length-blocks, length-older, step-up, connects-parent}
use Rattle.model.specs.laws.Kept.{alone-at}

module _ (params : Params) (triples : Triples) (t : Blocks Block) where
  abbrev r : Rules Block Id
  r = regtest params triples

  -- the coins that a branch leaves
  abbrev at : ℕ → Coins
  at p = coins_at r ledger t p

  -- where the block of a place stands
  abbrev pub setting_at : ℕ → Setting
  setting_at p = setting_on params (blocks_at names t (branch t (parent_at t p)))

  -- what the transactions of the block of a place spend
  abbrev pub undo_at : ℕ → List (List Coin)
  undo_at p = undo_of (height t p) (at (parent_at t p)) (block_at names t p).txs

  pub connected-at : (p : ℕ) → 0 < p → p ≤ length t → AllKept r t → connects r t p ≡ true
      → IsConnected (setting_at p) (at (parent_at t p)) (block_at names t p) (at p) (undo_at p)
  connected-at p z h all good =
      let before : Coins = at (parent_at t p) in
      let b : Block = block_at names t p in
      let high : length (blocks_at names t (branch t (parent_at t p))) ≡ height t p = length-blocks r ledger t (branch t (parent_at t p)) ∙ length-older r ledger t p z h in
      record {
        alone = alone-at r t p all z h;
        over_coins = rules_kept (setting_at p) before b.txs triples (connects-parent r ledger t p z h good);
        after = step-up r ledger t p z h ∙ ap (λ (n : ℕ). effect n before b.txs) (sym high);
        spent = ap (λ (n : ℕ). undo_of n before b.txs) (sym high);
      }
