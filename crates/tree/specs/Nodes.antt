-- How the program's tree is seen.
use Rattle.std.specs.Prelude.{◌≡◌, ℕ, suc, ◌-◌, ◌<◌, ◌≤◌, Bool, false, List, [], ◌∷◌, length, map, reverse, filter, slice_index_or}
use Rattle.block.specs.declared.block.Block.{Block}
use Rattle.block.specs.Identity.{id_of}
use Rattle.tree.specs.declared.new_block.NewBlock.{NewBlock}
use Rattle.tree.specs.declared.block_index.BlockIndex.{BlockIndex}
use Rattle.tree.specs.declared.block_index.Mark.{Mark}
use Rattle.tree.specs.Branches.{Kept, Blocks, down_from}
use Rattle.tree.specs.Limits.{max_blocks}
use Rattle.tree.specs.State.{State, has_no_mark, rank}

-- the block of a node, with its parent's place
abbrev pub kept_of : BlockIndex → Kept Block
kept_of n = record { block = n.block; parent = n.parent }

-- all but the first
abbrev pub after_first : {A : Type 0} → List A → List A
after_first [] = []
after_first (x ∷ xs) = xs

-- the first node is genesis
unfoldable pub blocks_of : List BlockIndex → Blocks Block
blocks_of nodes = reverse (map kept_of (after_first nodes))

-- where there is no mark
abbrev pub blank : Mark
blank = record { bad = false; seen = false; usable = false; rank = 0 }

-- the mark at a place
abbrev pub mark_at : List Mark → ℕ → Mark
mark_at marks p = slice_index_or marks p blank

-- the places whose marks pass, the newest first
unfoldable pub places_where : (Mark → Bool) → List Mark → List ℕ
places_where f marks = filter (λ p. f (mark_at marks p)) (down_from (length marks - 1))

-- the state that nodes, marks and calls are
unfoldable pub state_of : List BlockIndex → List Mark → List ℕ → State Block
state_of nodes marks calls = record {
  blocks = blocks_of nodes;
  bad = places_where (λ m. m.bad) marks;
  seen = places_where (λ m. m.seen) marks;
  precious = reverse calls;
}

-- ---- marks laid over a state, whose blocks and calls stay

abbrev pub laid : State Block → List Mark → State Block
laid s marks = record s { bad = places_where (λ m. m.bad) marks; seen = places_where (λ m. m.seen) marks }

-- what follows from the marks of all blocks
pub record IsMark (s : State Block) (p : ℕ) (m : Mark) : Type 0 where
  pub usable : m.usable ≡ has_no_mark s p
  pub rank : m.rank ≡ rank s p

-- these are marks of all blocks of s, and genesis isn't marked
pub record AreMarks (s : State Block) (marks : List Mark) : Type 0 where
  pub count : length marks ≡ suc (length s.blocks)
  pub genesis : (mark_at marks 0).bad ≡ false
  pub right : (p : ℕ) → p ≤ length s.blocks → IsMark (laid s marks) p (mark_at marks p)

-- the block may be kept: there is room for it, its id is its header's, and its parent is kept
pub record CanKeep (s : State Block) (new : NewBlock) : Type 0 where
  pub room : suc (length s.blocks) < max_blocks
  pub id : new.id ≡ id_of new.block.header
  pub parent : new.parent ≤ length s.blocks
