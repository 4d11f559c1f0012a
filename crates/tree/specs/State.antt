-- The state of the tree: the kept blocks, their marks, and which of two is the better one.
use Rattle.std.specs.Prelude.{ℕ, suc, ◌==◌, nat_lt, Bool, not, ◌&&◌, ◌||◌, if◌then◌else◌, List, [], ◌∷◌, length}
use Rattle.std.specs.List.{list_all, filter}
use Rattle.tree.specs.Branches.{Blocks, has, places, branch, on, height}

pub record State (B : Type 0) : Type 0 where
  pub blocks : Blocks B
  -- the places of the blocks that are marked as invalid
  pub bad : List ℕ
  -- of those that were found valid once
  pub seen : List ℕ
  -- the calls of `preciousblock`, the last one first
  pub precious : List ℕ

-- genesis alone
abbrev pub opening : {B : Type 0} → State B
opening = record { blocks = []; bad = []; seen = 0 ∷ []; precious = [] }

-- the set with all places that pass
unfoldable pub union_where : List ℕ → List ℕ → (ℕ → Bool) → List ℕ
union_where all set passes = filter (λ p. has set p || passes p) all

-- the number of the last call for p, counted from 1; 0 where none was
unfoldable pub rank_in : List ℕ → ℕ → ℕ
rank_in [] p = 0
rank_in (x ∷ earlier) p = if x == p then suc (length earlier) else rank_in earlier p

module _ {B : Type 0} where
  -- no block of the branch is marked
  unfoldable pub has_no_mark : State B → ℕ → Bool
  has_no_mark s c = list_all (λ x. not (has s.bad x)) (branch s.blocks c)

  unfoldable pub rank : State B → ℕ → ℕ
  rank s p = rank_in s.precious p

  -- higher; or as high and called precious later; or as high, both never called, and came earlier
  unfoldable pub beats : State B → ℕ → ℕ → Bool
  beats s a b =
      nat_lt (height s.blocks b) (height s.blocks a)
      || ((height s.blocks a == height s.blocks b) && (nat_lt (rank s b) (rank s a) || ((rank s a == rank s b) && nat_lt a b)))

  -- ---- what changes a state

  -- the block is the last to arrive
  abbrev pub with_block : State B → B → ℕ → State B
  with_block s b parent = record s { blocks = record { block = b; parent = parent } ∷ s.blocks }

  -- these blocks are marked too, and those seen
  abbrev pub with_new_flags : State B → (ℕ → Bool) → (ℕ → Bool) → State B
  with_new_flags s bad seen = record s { bad = union_where (places s.blocks) s.bad bad; seen = union_where (places s.blocks) s.seen seen }

  abbrev pub with_mark : State B → ℕ → State B
  with_mark s p = record s { bad = union_where (places s.blocks) s.bad (λ x. x == p) }

  abbrev pub with_seen : State B → ℕ → State B
  with_seen s p = record s { seen = union_where (places s.blocks) s.seen (λ x. x == p) }

  -- the marks are taken from the block, its ancestors and its descendants
  unfoldable pub without_marks : State B → ℕ → State B
  without_marks s p = record s { bad = filter (λ x. not (on s.blocks p x || on s.blocks x p)) s.bad }

  -- the block is called precious
  abbrev pub with_call : State B → ℕ → State B
  with_call s p = record s { precious = p ∷ s.precious }
