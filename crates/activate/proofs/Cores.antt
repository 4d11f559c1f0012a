-- What is kept beside the tree, when the tree changes.
use Rattle.std.proofs.Common.{◌≡◌, ℕ, suc, ◌≤◌, List, length, map, reverse, sym, ap, ◌∙◌, subst, arith}
use Rattle.std.proofs.lemmas.List.{length-map, length-reverse}
use Rattle.block.specs.declared.block.Block.{Block}
use Rattle.coins.specs.declared.coin.Coin.{Coin}
use Rattle.tree.specs.Branches.{Blocks, branch, height}
use Rattle.tree.specs.laws.Branches.{branch_head}
use Rattle.activate.specs.inside.Kept.{HasRoom, IsBranch}
use Rattle.activate.specs.inside.ActiveBranch.{median_at}
use Rattle.activate.specs.laws.OtherBranch.{highest-long, medians-branch}

-- of other blocks that are the same
pub branch_of_same : (t u : Blocks Block) (p : ℕ) (places medians : List ℕ) (undo packed : List (List (List Coin))) → ◌≡◌ {A = Blocks Block} u t → IsBranch t p places medians undo packed → IsBranch u p places medians undo packed
branch_of_same t u p places medians undo packed e is = subst (λ (w : Blocks Block). IsBranch w p places medians undo packed) (sym e) is

pub room_of_same : (t u : Blocks Block) (a b c d : ℕ) → ◌≡◌ {A = Blocks Block} u t → HasRoom t a b c d → HasRoom u a b c d
room_of_same t u a b c d e is = subst (λ (w : Blocks Block). HasRoom w a b c d) (sym e) is

module _ (t : Blocks Block) (p : ℕ) (h : p ≤ length t) (places medians : List ℕ) (undo packed : List (List (List Coin))) (is : IsBranch t p places medians undo packed) where
  branch-long : length (branch t p) ≡ suc (height t p)
  unfolding height
  branch-long = ap (λ (k : List ℕ). length k) (branch_head t p h)

  pub places-long : length places ≡ suc (height t p)
  places-long = ap (λ (k : List ℕ). length k) is.places_are ∙ length-reverse (branch t p) ∙ branch-long

  pub medians-long : length medians ≡ suc (height t p)
  medians-long =
      ap (λ (k : List ℕ). length k) (is.medians_are ∙ ap (λ (k : List ℕ). reverse k) (medians-branch t p h))
      ∙ length-reverse (map (median_at t) (branch t p)) ∙ length-map (branch t p) (median_at t) ∙ branch-long

  pub packed-long : length packed ≡ height t p
  packed-long = ap (λ (k : List (List (List Coin))). length k) is.packed_is ∙ highest-long t p (height t p) h (omega arith)
