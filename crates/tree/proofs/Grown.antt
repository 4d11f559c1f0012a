-- A tree to which a block is added is right.
use Rattle.std.proofs.Common.{◌≡◌, ℕ, suc, ◌-◌, ◌<◌, ◌≤◌, Bool, true, false, cond, eqb, List, [], ◌∷◌, ◌++◌, length, reverse, get_or, None, Some, sym, refl, ap, ◌∙◌, subst, inl, inr, arith}
use Rattle.std.proofs.Math.ListN.{get_or-append}
use Rattle.std.proofs.Math.Seq.{get_or-append_seam}
use Rattle.std.proofs.lemmas.Bool.{cases_eq}
use Rattle.std.proofs.lemmas.List.{length-append}
use Rattle.std.specs.List.{filter, list_any, IsDistinct}
use Rattle.std.specs.Prelude.{nat_eq}
use Rattle.std.specs.Map.{lookup}
use Rattle.std.specs.Cmp.Lexicographic.{texts_ties}
use Rattle.hash.specs.declared.id.Id.{Id}
use Rattle.block.specs.declared.block.Block.{Block}
use Rattle.block.specs.Identity.{id_of}
use Rattle.tree.specs.declared.block_index.BlockIndex.{BlockIndex}
use Rattle.tree.specs.declared.block_index.Mark.{Mark}
use Rattle.tree.specs.Branches.{Kept, Blocks, has, place_of, down_from}
use Rattle.tree.specs.State.{State, has_no_mark, rank, with_block}
use Rattle.tree.specs.Limits.{max_blocks}
use Rattle.tree.specs.MedianTime.{median_time_past}
use Rattle.hash.specs.Id.{same_id}
use Rattle.tree.specs.Names.{names}
use Rattle.tree.specs.Nodes.{IsMark, kept_of, blocks_of, blank, mark_at, places_where, state_of}
use Rattle.tree.specs.inside.Nodes.{IsNode, IsRight, AreNodes, AreIds}
use Rattle.tree.specs.inside.Leaves.{AreInOrder, AreLeaves}
use Rattle.tree.specs.laws.Sets.{filter_agree}
use Rattle.tree.specs.laws.Branches.{parent_there, height_there}
use Rattle.tree.specs.laws.AddedBlock.{block_there, id_there, id_here, blocks-old, usable_there, usable_new}
use Rattle.tree.specs.laws.Ranks.{rank-none}
use Rattle.tree.specs.laws.Leaves.{leaves_grown}
use Rattle.tree.proofs.Views.{kept, length-blocks, blocks-push, has_where-above}
use Rattle.tree.proofs.Changes.{made, bad-view, seen-view, precious-view}

node_there : (t : Blocks Block) (k : Kept Block) (p : ℕ) (n : BlockIndex) → p ≤ length t → IsNode t p n → IsNode (k ∷ t) p n
node_there t k p n h is = record {
  block = is.block ∙ sym (block_there names k t p h);
  id = is.id ∙ sym (id_there names k t p h);
  parent = is.parent ∙ sym (parent_there k t p h);
  height = is.height ∙ sym (height_there k t p h);
  median = is.median ∙ ap median_time_past (sym (blocks-old names k t p h));
}

-- a mark without flags adds no place
where_push : (f : Mark → Bool) (ms : List Mark) (m : Mark) → 0 < length ms → f m ≡ false → places_where f (ms ++ m ∷ []) ≡ places_where f ms
unfolding places_where down_from
where_push f ms m z e =
    ap (λ (n : ℕ). filter test (down_from n)) long ∙ ap (λ b. cond b (suc last ∷ filter test (down_from last)) (filter test (down_from last))) none
    ∙ filter_agree test (λ q. f (mark_at ms q)) last (λ q l. ap f (get_or-append ms (m ∷ []) blank q (omega arith)))
  where
    last : ℕ
    last = length ms - 1

    test : ℕ → Bool
    test q = f (mark_at (ms ++ m ∷ []) q)

    long : length (ms ++ m ∷ []) - 1 ≡ suc (length ms - 1)
    long = let e = length-append ms (m ∷ []) in omega arith

    none : f (mark_at (ms ++ m ∷ []) (suc (length ms - 1))) ≡ false
    none =
        let last-is : suc (length ms - 1) ≡ length ms = omega arith in
        ap (λ (q : ℕ). f (mark_at (ms ++ m ∷ []) q)) last-is ∙ ap f (get_or-append_seam ms m [] blank) ∙ e

-- what is seen of the nodes and marks with one more
pub state_pushed : (ns : List BlockIndex) (ms : List Mark) (cs : List ℕ) (n : BlockIndex) (m : Mark) → 0 < length ns → length ms ≡ length ns → m.bad ≡ false → m.seen ≡ false → state_of (ns ++ n ∷ []) (ms ++ m ∷ []) cs ≡ with_block (state_of ns ms cs) n.block n.parent
unfolding state_of
state_pushed ns ms cs n m z l b g =
    made (ns ++ n ∷ []) (ms ++ m ∷ []) cs (blocks-push ns n z) (where_push (λ x. x.bad) ms m (omega arith) b) (where_push (λ x. x.seen) ms m (omega arith) g) refl

module _ {ns : List BlockIndex} {ms : List Mark} {cs : List ℕ} {is : List (Id × ℕ)} {ls : List ℕ} (right : IsRight ns ms cs is ls) (n : BlockIndex) (m : Mark) where
  abbrev t : Blocks Block
  t = blocks_of ns

  abbrev k : Kept Block
  k = kept_of n

  abbrev old : State Block
  old = state_of ns ms cs

  long : suc (length t) ≡ length ns
  long = length-blocks ns right.some

  -- what is seen of the new tree
  pub state_grown : m.bad ≡ false → m.seen ≡ false → state_of (ns ++ n ∷ []) (ms ++ m ∷ []) cs ≡ with_block (state_of ns ms cs) n.block n.parent
  state_grown b g = state_pushed ns ms cs n m right.some right.same b g

  module _ (node : IsNode (kept_of n ∷ blocks_of ns) (length ns) n) (room : length ns < max_blocks) (parent : n.parent < length ns)
      (bad : m.bad ≡ false) (seen : m.seen ≡ false) (rank0 : m.rank ≡ 0) (usage : m.usable ≡ has_no_mark (state_of ns ms cs) n.parent) where
    nodes_grown : AreNodes (k ∷ t) (ns ++ n ∷ [])
    nodes_grown p d h =
        let e = length-append ns (n ∷ []) in
        let g = long in
        elim (cases_eq p (length ns)) [
          | inl w ↦ subst (λ (q : ℕ). IsNode (k ∷ t) q (get_or (ns ++ n ∷ []) q d)) (sym w) (subst (IsNode (k ∷ t) (length ns)) (sym (get_or-append_seam ns n [] d)) node)
          | inr w ↦ subst (IsNode (k ∷ t) p) (sym (get_or-append ns (n ∷ []) d p (omega arith))) (node_there t k p (get_or ns p d) (omega arith) (right.are_nodes p d (omega arith)))
        ]

    marks_grown : (p : ℕ) → p < length (ns ++ n ∷ []) → IsMark (with_block old n.block n.parent) p (mark_at (ms ++ m ∷ []) p)
    unfolding rank state_of
    marks_grown p h =
        let e = length-append ns (n ∷ []) in
        let g = long in
        let l = right.same in
        let z = right.some in
        elim (cases_eq p (length ns)) [
          | inl w ↦
              let here : mark_at (ms ++ m ∷ []) p ≡ m = ap (mark_at (ms ++ m ∷ [])) (omega arith) ∙ get_or-append_seam ms m [] blank in
              let new : p ≡ suc (length t) = omega arith in
              record {
                usable = ap (λ x. x.usable) here ∙ usage
                    ∙ sym (ap (has_no_mark (with_block old n.block n.parent)) new ∙ usable_new old k (has_where-above (λ x. x.bad) ms (suc (length t)) (omega arith) (omega arith)));
                rank = ap (λ x. x.rank) here ∙ rank0 ∙ sym (rank-none (reverse cs) p (right.are_calls p (omega arith)));
              }
          | inr w ↦
              let there : mark_at (ms ++ m ∷ []) p ≡ mark_at ms p = get_or-append ms (m ∷ []) blank p (omega arith) in
              let is = right.are_marks p (omega arith) in
              record {
                usable = ap (λ x. x.usable) there ∙ is.usable ∙ sym (usable_there old k p (omega arith));
                rank = ap (λ x. x.rank) there ∙ is.rank;
              }
        ]

    ids_grown : (id : Id) (new : List (Id × ℕ)) → id ≡ id_of n.block.header
        → ((i : Id) → lookup (same_id i) new ≡ cond (same_id id i) (Some (length ns)) (lookup (same_id i) is)) → AreIds (k ∷ t) new
    unfolding place_of
    ids_grown id new e f i =
        f i ∙ ap (λ (b : Bool). cond b (Some (length ns)) (lookup (same_id i) is)) (texts_ties id.0 i.0 ∙ ap (λ (x : Id). names.same_id x i) e)
        ∙ ap (λ (x : ℕ). cond (names.same_id (id_of n.block.header) i) (Some x) (lookup (same_id i) is)) (sym long)
        ∙ ap (cond (names.same_id (id_of n.block.header) i) (Some (suc (length t)))) (right.are_ids i)

    -- the whole
    pub right_grown : (id : Id) (new-ids : List (Id × ℕ)) (new-leaves : List ℕ) → id ≡ id_of n.block.header
        → ((i : Id) → lookup (same_id i) new-ids ≡ cond (same_id id i) (Some (length ns)) (lookup (same_id i) is))
        → IsDistinct nat_eq new-leaves → ((p : ℕ) → list_any (nat_eq p) new-leaves ≡ cond (eqb (length ns) p) true (cond (eqb n.parent p) false (list_any (nat_eq p) ls)))
        → IsRight (ns ++ n ∷ []) (ms ++ m ∷ []) cs new-ids new-leaves
    right_grown id new-ids new-leaves e f once g =
        let l = length-append ns (n ∷ []) in
        let j = length-append ms (m ∷ []) in
        let same = right.same in
        let z = right.some in
        let push = blocks-push ns n right.some in
        let order : AreInOrder (kept_of n ∷ blocks_of ns) = ((let q = parent in let g = long in omega arith), right.in_order) in
        record {
          some = omega arith;
          room = let r = room in omega arith;
          same = omega arith;
          are_nodes = subst (λ (u : Blocks Block). AreNodes u (ns ++ n ∷ [])) (sym push) nodes_grown;
          are_marks = λ p h. subst (λ (u : State Block). IsMark u p (mark_at (ms ++ m ∷ []) p)) (sym (state_grown bad seen)) (marks_grown p h);
          genesis = ap (λ x. x.bad) (get_or-append ms (m ∷ []) blank 0 (omega arith)) ∙ right.genesis;
          are_calls = λ p h. right.are_calls p (omega arith);
          in_order = subst AreInOrder (sym push) order;
          are_ids = subst (λ (u : Blocks Block). AreIds u new-ids) (sym push) (ids_grown id new-ids e f);
          are_leaves = subst (λ (u : Blocks Block). AreLeaves u new-leaves) (sym push) (leaves_grown k t ls new-leaves order right.are_leaves once (λ p. g p ∙ ap (λ (x : ℕ). cond (eqb x p) true (cond (eqb n.parent p) false (list_any (nat_eq p) ls))) (sym long)));
        }
