-- The active branch with what is kept of it, when a block is added to the tree, and when the block goes on top of it.
use Rattle.std.proofs.Common.{◌≡◌, ℕ, zero, suc, ◌≤◌, true, eqb, List, [], ◌∷◌, length, map, reverse, take, sym, refl, ap, ◌∙◌, inl, inr, arith}
use Rattle.std.proofs.lemmas.Bool.{or_cases, or_left}
use Rattle.block.specs.declared.genesis.TheConstants.{GENESIS_TIME}
use Rattle.locks.specs.MedianTime.{is_middle, median_of}
use Rattle.tree.specs.MedianTime.{median_time_past}
use Rattle.block.specs.declared.block.Block.{Block}
use Rattle.coins.specs.declared.coin.Coin.{Coin}
use Rattle.connect.specs.Turns.{undo_of}
use Rattle.tree.specs.Branches.{Kept, Blocks, has, branch, before, height, parent_at, block_at}
use Rattle.tree.specs.Names.{names}
use Rattle.tree.specs.laws.Sets.{has_here, has_there}
use Rattle.tree.specs.laws.Branches.{branch_there, height_here, height_there, parent_here, parent_there, parent-genesis}
use Rattle.tree.specs.laws.Parents.{parent-kept}
use Rattle.tree.specs.laws.AddedBlock.{branch_within, block_there, block_here, blocks-old}
use Rattle.model.specs.Replay.{replay}
use Rattle.model.specs.Regtest.{medians_of, ledger}
use Rattle.activate.specs.CoreState.{branch_blocks}
use Rattle.activate.specs.Lookups.{undo_at}
use Rattle.activate.specs.inside.Kept.{highest_undo, IsBranch}

-- maps that agree on a list of places
pub map_agree : {A : Type 0} (f g : ℕ → A) (l : List ℕ) → ((x : ℕ) → has l x ≡ true → f x ≡ g x) → map f l ≡ map g l
map_agree f g [] h = refl
map_agree f g (x ∷ l) h = ap (λ y. y ∷ map f l) (h x (has_here x l)) ∙ ap (λ r. g x ∷ r) (map_agree f g l (λ y o. h y (has_there x y l o)))

taken-there : (n : ℕ) (l : List ℕ) (x : ℕ) → has (take n l) x ≡ true → has l x ≡ true
taken-there zero l x o = cc
taken-there (suc n) [] x o = cc
taken-there (suc n) (y ∷ l) x o = elim (or_cases (eqb y x) (has (take n l) x) o) [ inl e ↦ or_left (eqb y x) (has l x) e | inr e ↦ has_there y x l (taken-there n l x e) ]

module _ (k : Kept Block) (older : Blocks Block) where
  abbrev more : Blocks Block
  more = k ∷ older

  abbrev new : ℕ
  new = suc (length older)

  pub kept-parent : (p : ℕ) → p ≤ length older → parent_at older p ≤ length older
  kept-parent zero h = let e = parent-genesis older in omega arith
  kept-parent (suc p) h = parent-kept older (suc p) (omega arith) h

  -- what the other blocks spend stays
  pub undo-old : (p : ℕ) → p ≤ length older → undo_at more p ≡ undo_at older p
  unfolding undo_at
  undo-old p h =
      ap (λ (n : ℕ). undo_of n (replay ledger (branch_blocks more (parent_at more p))) (block_at names more p).txs) (height_there k older p h)
      ∙ ap (λ (q : ℕ). undo_of (height older p) (replay ledger (branch_blocks more q)) (block_at names more p).txs) (parent_there k older p h)
      ∙ ap (λ (l : List Block). undo_of (height older p) (replay ledger l) (block_at names more p).txs) (blocks-old names k older (parent_at older p) (kept-parent p h))
      ∙ ap (λ (b : Block). undo_of (height older p) (replay ledger (branch_blocks older (parent_at older p))) b.txs) (block_there names k older p h)

  -- what the new one spends, over its parent's branch
  pub undo-new : k.parent ≤ length older → undo_at more new ≡ undo_of (suc (height older k.parent)) (replay ledger (branch_blocks older k.parent)) k.block.txs
  unfolding undo_at
  undo-new h =
      ap (λ (n : ℕ). undo_of n (replay ledger (branch_blocks more (parent_at more new))) (block_at names more new).txs) (height_here k older h)
      ∙ ap (λ (q : ℕ). undo_of (suc (height older k.parent)) (replay ledger (branch_blocks more q)) (block_at names more new).txs) (parent_here k older h)
      ∙ ap (λ (l : List Block). undo_of (suc (height older k.parent)) (replay ledger l) (block_at names more new).txs) (blocks-old names k older k.parent h)
      ∙ ap (λ (b : Block). undo_of (suc (height older k.parent)) (replay ledger (branch_blocks older k.parent)) b.txs) (block_here names k older)

  undo-taken : (n p : ℕ) → map (undo_at more) (take n (branch older p)) ≡ map (undo_at older) (take n (branch older p))
  undo-taken n p = map_agree (undo_at more) (undo_at older) (take n (branch older p)) (λ x o. undo-old x (branch_within names k older p x (taken-there n (branch older p) x o)))

  pub highest-old : (p n : ℕ) → p ≤ length older → highest_undo more p n ≡ highest_undo older p n
  unfolding highest_undo
  highest-old p n h =
      ap (λ (l : List ℕ). reverse (map (undo_at more) (take n l))) (branch_there k older p (omega arith))
      ∙ ap (λ (l : List (List (List Coin))). reverse l) (undo-taken n p)

  -- the block stands beside: all stays
  pub branch-beside : (p : ℕ) (places medians : List ℕ) (undo packed : List (List (List Coin))) → p ≤ length older → IsBranch older p places medians undo packed → IsBranch more p places medians undo packed
  branch-beside p places medians undo packed h is = record {
    places_are = is.places_are ∙ ap (λ (l : List ℕ). reverse l) (sym (branch_there k older p (omega arith)));
    medians_are = is.medians_are ∙ ap (λ (l : List Block). reverse (medians_of l)) (sym (blocks-old names k older p h));
    undo_is = is.undo_is ∙ sym (highest-old p (length undo) h);
    undo_few = is.undo_few;
    undo_above = (let tall = height_there k older p h in let a = is.undo_above in omega arith);
    packed_is = is.packed_is ∙ sym (highest-old p (height older p) h) ∙ ap (highest_undo more p) (sym (height_there k older p h));
  }

-- of genesis alone
pub branch_opening : IsBranch [] 0 (0 ∷ []) (GENESIS_TIME ∷ []) [] []
unfolding branch before height median_time_past median_of is_middle highest_undo block_at
branch_opening = record { places_are = refl; medians_are = refl; undo_is = refl; undo_few = omega arith; undo_above = omega arith; packed_is = refl }
