-- What is always right in the program's tree, and what its functions do to the nodes and marks.
use Rattle.std.specs.Prelude.{◌≡◌, ℕ, ◌<◌, ◌≤◌, Bool, true, false, List, [], length, reverse, slice_index_or}
use Rattle.std.specs.Map.{lookup}
use Rattle.hash.specs.declared.id.Id.{Id}
use Rattle.block.specs.declared.block.Block.{Block}
use Rattle.tree.specs.declared.block_index.BlockIndex.{BlockIndex}
use Rattle.tree.specs.declared.block_index.Mark.{Mark}
use Rattle.tree.specs.Branches.{Blocks, has, branch, height, parent_at, block_at, id_at, blocks_at, place_of}
use Rattle.tree.specs.inside.Leaves.{AreInOrder, AreLeaves}
use Rattle.tree.specs.State.{State, has_no_mark}
use Rattle.tree.specs.Limits.{max_blocks}
use Rattle.tree.specs.MedianTime.{median_time_past}
use Rattle.hash.specs.Id.{same_id}
use Rattle.tree.specs.Names.{names, genesis}
use Rattle.tree.specs.Nodes.{IsMark, blocks_of, mark_at, state_of}

-- of a node, by its place
pub record IsNode (t : Blocks Block) (p : ℕ) (n : BlockIndex) : Type 0 where
  pub block : n.block ≡ block_at names t p
  pub id : n.id ≡ id_at names t p
  pub parent : n.parent ≡ parent_at t p
  pub height : n.height ≡ height t p
  pub median : n.median ≡ median_time_past (blocks_at names t (branch t p))

-- of all nodes, by their places
abbrev pub AreNodes : Blocks Block → List BlockIndex → Type 0
AreNodes t nodes = (p : ℕ) (d : BlockIndex) → p < length nodes → IsNode t p (slice_index_or nodes p d)

-- the ids, each with the place of its block
abbrev pub AreIds : Blocks Block → List (Id × ℕ) → Type 0
AreIds t ids = (i : Id) → lookup (same_id i) ids ≡ place_of names t i

-- of a tree: its nodes and marks, its calls, its ids, and its leaves
pub record IsRight (nodes : List BlockIndex) (marks : List Mark) (calls : List ℕ) (ids : List (Id × ℕ)) (leaves : List ℕ) : Type 0 where
  pub some : 0 < length nodes
  pub room : length nodes ≤ max_blocks
  pub same : length marks ≡ length nodes
  pub are_nodes : AreNodes (blocks_of nodes) nodes
  pub are_marks : (p : ℕ) → p < length nodes → IsMark (state_of nodes marks calls) p (mark_at marks p)
  pub genesis : (mark_at marks 0).bad ≡ false
  pub are_calls : (p : ℕ) → length nodes ≤ p → has (reverse calls) p ≡ false
  pub in_order : AreInOrder (blocks_of nodes)
  pub are_ids : AreIds (blocks_of nodes) ids
  pub are_leaves : AreLeaves (blocks_of nodes) leaves

-- all but whether the branch is usable
pub record SameFlags (m n : Mark) : Type 0 where
  pub bad : m.bad ≡ n.bad
  pub seen : m.seen ≡ n.seen
  pub rank : m.rank ≡ n.rank

abbrev pub AreUsable : State Block → List Mark → ℕ → Type 0
AreUsable s marks n = (p : ℕ) → p < n → (mark_at marks p).usable ≡ has_no_mark s p

-- of marks of which those of invalid blocks are others now, at each place by what was there; which branches are usable is as they say
pub record AreRemarked (nodes : List BlockIndex) (old new : List Mark) (bad : ℕ → Bool → Bool) : Type 0 where
  pub count : length new ≡ length nodes
  pub bad_are : (p : ℕ) → p < length nodes → (mark_at new p).bad ≡ bad p (mark_at old p).bad
  pub seen_are : (p : ℕ) → p < length nodes → (mark_at new p).seen ≡ (mark_at old p).seen
  pub ranks_are : (p : ℕ) → p < length nodes → (mark_at new p).rank ≡ (mark_at old p).rank
  pub usable_are : AreUsable (state_of nodes new []) new (length nodes)

abbrev pub first_node : BlockIndex
first_node = record { block = genesis; id = names.genesis_id; parent = 0; height = 0; median = genesis.header.time }

abbrev pub first_mark : Mark
first_mark = record { bad = false; seen = true; usable = true; rank = 0 }
