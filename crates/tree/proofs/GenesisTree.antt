-- The tree of genesis alone is right.
use Rattle.std.proofs.Common.{◌≡◌, ℕ, cond, List, [], ◌∷◌, get_or, Option, None, Some, sym, refl, ap, ◌∙◌, subst, arith}
use Rattle.std.specs.Map.{lookup}
use Rattle.std.specs.Cmp.Lexicographic.{texts_ties}
use Rattle.locks.specs.MedianTime.{median_of, is_middle}
use Rattle.hash.specs.declared.id.Id.{Id}
use Rattle.block.specs.declared.block.Block.{Block}
use Rattle.tree.specs.declared.block_index.BlockIndex.{BlockIndex}
use Rattle.tree.specs.declared.block_index.Mark.{Mark}
use Rattle.tree.specs.Branches.{down_from, branch, before, height, parent_at, block_at, id_at, place_of}
use Rattle.tree.specs.State.{opening, has_no_mark, rank, rank_in}
use Rattle.tree.specs.MedianTime.{median_time_past}
use Rattle.hash.specs.Id.{same_id}
use Rattle.tree.specs.Names.{names}
use Rattle.tree.specs.Nodes.{IsMark, blocks_of, mark_at, places_where, state_of}
use Rattle.tree.specs.inside.Nodes.{IsNode, IsRight, first_node, first_mark}
use Rattle.tree.specs.inside.Leaves.{AreLeaves}

abbrev nodes : List BlockIndex
nodes = first_node ∷ []

abbrev marks : List Mark
marks = first_mark ∷ []

pub opened : ◌≡◌ (state_of nodes marks []) opening
unfolding state_of blocks_of places_where down_from
opened = refl

node_zero : IsNode [] 0 first_node
unfolding branch before height parent_at block_at id_at median_time_past median_of is_middle
node_zero = record { block = refl; id = refl; parent = refl; height = refl; median = refl }

mark_zero : IsMark opening 0 first_mark
unfolding has_no_mark branch rank rank_in
mark_zero = record { usable = refl; rank = refl }

pub right_opened : (ids : List (Id × ℕ)) (leaves : List ℕ) → ((i : Id) → lookup (same_id i) ids ≡ cond {A = Option ℕ} (same_id names.genesis_id i) (Some 0) None)
    → AreLeaves {B = Block} [] leaves → IsRight nodes marks [] ids leaves
unfolding place_of blocks_of
right_opened ids leaves f g = record {
  some = omega arith;
  room = omega arith;
  same = refl;
  are_nodes = λ p d h. at_zero p d (omega arith);
  are_marks = λ p h. mark_at_zero p (omega arith);
  genesis = refl;
  are_calls = λ p h. refl;
  in_order = tt;
  are_ids = λ i. f i ∙ ap (λ b. cond {A = Option ℕ} b (Some 0) None) (texts_ties names.genesis_id.0 i.0);
  are_leaves = g;
}
  where
    at_zero : (p : ℕ) (d : BlockIndex) → p ≡ 0 → IsNode [] p (get_or nodes p d)
    at_zero p d e = subst (λ (q : ℕ). IsNode [] q (get_or nodes q d)) (sym e) node_zero

    mark_at_zero : (p : ℕ) → p ≡ 0 → IsMark (state_of nodes marks []) p (mark_at marks p)
    mark_at_zero p e = subst (λ (q : ℕ). IsMark (state_of nodes marks []) q (mark_at marks q)) (sym e) (subst (λ s. IsMark s 0 first_mark) (sym opened) mark_zero)
