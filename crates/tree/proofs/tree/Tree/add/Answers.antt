use Rattle.std.proofs.Common.{◌≡◌, ℕ, suc, ◌<◌, ◌≤◌, Bool, true, false, cond, eqb, List, [], ◌∷◌, ◌++◌, Some, length, sym, refl, ap, ◌∙◌, subst, arith, get_or}
use Rattle.std.specs.List.{list_any, IsDistinct}
use Rattle.std.specs.Prelude.{nat_eq}
use Rattle.std.specs.Map.{lookup}
use Rattle.hash.specs.declared.id.Id.{Id}
use Rattle.block.specs.declared.block.Block.{Block}
use Rattle.block.specs.Identity.{id_of}
use Rattle.tree.specs.declared.block_index.BlockIndex.{BlockIndex}
use Rattle.tree.specs.declared.block_index.Mark.{Mark}
use Rattle.tree.specs.Branches.{Kept}
use Rattle.tree.specs.Limits.{max_blocks}
use Rattle.tree.specs.State.{State, has_no_mark, with_block}
use Rattle.hash.specs.Id.{same_id}
use Rattle.tree.specs.Nodes.{blocks_of, kept_of, state_of}
use Rattle.tree.specs.inside.Nodes.{IsNode, IsRight}
use Rattle.tree.specs.laws.Leaves.{leaves_same}
use Rattle.tree.proofs.Views.{kept, usable_at}
use Rattle.tree.proofs.Grown.{right_grown, state_grown}
use Rattle.tree.proofs.tree.Tree.add.Goals as goal

-- the mark of a new block
abbrev new_mark : Bool → Mark
new_mark usable = record { bad = false; seen = false; usable = usable; rank = 0 }

-- one item more, in a list that was first given room
one_more : {A : Type 0} {items roomy new : List A} (x : A) → ◌≡◌ {A = List A} new (roomy ++ x ∷ []) → ◌≡◌ {A = List A} roomy items → ◌≡◌ {A = List A} new (items ++ x ∷ [])
one_more x pushed room = pushed ∙ ap (λ (l : List _). l ++ x ∷ []) room

module _ {ns : List BlockIndex} {ms : List Mark} {cs : List ℕ} {is : List (Id × ℕ)} {ls : List ℕ} (right : IsRight ns ms cs is ls) {s : State Block} (view : state_of ns ms cs ≡ s) where
  -- a kept block is among the nodes that are lent
  in_nodes : {lent : List BlockIndex} → lent ≡ ns → (p : ℕ) → p ≤ length s.blocks → p < length lent
  in_nodes lent-is p h = let k = kept right view in let v = ap (λ (l : List BlockIndex). length l) lent-is in omega arith

  -- the new block's place
  last_place : {roomy : List BlockIndex} → roomy ≡ ns → length roomy ≡ suc (length s.blocks)
  last_place same = ap (λ (l : List BlockIndex). length l) same ∙ kept right view

  module _ (n : BlockIndex) (usable : Bool) {b : Block} {p : ℕ} (own : kept_of n ≡ record { block = b; parent = p }) {nodes : List BlockIndex} {marks : List Mark}
      (nodes-are : nodes ≡ ns ++ n ∷ []) (marks-are : marks ≡ ms ++ new_mark usable ∷ []) where
    -- the tree has the block
    state_kept : state_of nodes marks cs ≡ with_block s b p
    state_kept =
        ap (λ (l : List BlockIndex). state_of l marks cs) nodes-are ∙ ap (λ (l : List Mark). state_of (ns ++ n ∷ []) l cs) marks-are
        ∙ state_grown right n (new_mark usable) refl refl ∙ ap (λ (k : Kept Block). with_block (state_of ns ms cs) k.block k.parent) own ∙ ap (λ (x : State Block). with_block x b p) view

    -- and is right if the node is the block's, the mark is usable where its parent is, and the ids and leaves are those with one more
    right_kept : IsNode (kept_of n ∷ blocks_of ns) (length ns) n → suc (length s.blocks) < max_blocks → p ≤ length s.blocks → usable ≡ has_no_mark s p
        → (id : Id) (new-ids : List (Id × ℕ)) (new-leaves : List ℕ) → id ≡ id_of b.header
        → ((i : Id) → lookup (same_id i) new-ids ≡ cond (same_id id i) (Some (length ns)) (lookup (same_id i) is))
        → IsDistinct nat_eq new-leaves → ((q : ℕ) → list_any (nat_eq q) new-leaves ≡ cond (eqb (length ns) q) true (cond (eqb p q) false (list_any (nat_eq q) ls)))
        → IsRight nodes marks cs new-ids new-leaves
    right_kept node room below usage id new-ids new-leaves named ids once leaves =
        let k = kept right view in
        let up : n.parent ≡ p = ap (λ (x : Kept Block). x.parent) own in
        subst (λ (l : List BlockIndex). IsRight l marks cs new-ids new-leaves) (sym nodes-are)
        (subst (λ (l : List Mark). IsRight (ns ++ n ∷ []) l cs new-ids new-leaves) (sym marks-are)
        (right_grown right n (new_mark usable) node (omega arith) (omega arith) refl refl refl
        (usage ∙ ap (λ (x : State Block). has_no_mark x p) (sym view) ∙ ap (has_no_mark (state_of ns ms cs)) (sym up)) id new-ids new-leaves
        (named ∙ ap (λ (x : Kept Block). id_of x.block.header) (sym own)) ids once
        (λ q. leaves q ∙ ap (λ (x : ℕ). cond (eqb (length ns) q) true (cond (eqb x q) false (list_any (nat_eq q) ls))) (sym up))))

pub node_on-node-requires-clause-kept : goal.node_on-node-requires-clause-kept
node_on-node-requires-clause-kept g c =
    in_nodes c.self.invariant c.self.view_is (c.as_slice.ensures.value ∙ c.in_ok-reserve_one.ensures.items) c.args.new.parent c.requires.parent

pub node_on-node-requires-clause-room : goal.node_on-node-requires-clause-room
node_on-node-requires-clause-room g c =
    let k = last_place c.self.invariant c.self.view_is (c.as_slice.ensures.value ∙ c.in_ok-reserve_one.ensures.items) in
    let r = c.requires.room in
    omega arith

pub index-requires : goal.index-requires
index-requires g c =
    let k = kept c.self.invariant c.self.view_is in
    let r = c.requires.parent in
    let l = c.self.invariant.same in
    let v = ap (λ (l : List Mark). length l) c.in_ok-reserve_one-2.ensures.items in
    omega arith

-- where room was got, and no more
same_right : {ns : List BlockIndex} {ms : List Mark} {cs : List ℕ} {is : List (Id × ℕ)} {ls : List ℕ} → IsRight ns ms cs is ls → (nodes : List BlockIndex) (marks : List Mark) (ids : List (Id × ℕ)) (leaves : List ℕ) → nodes ≡ ns → marks ≡ ms
    → ((i : Id) → lookup (same_id i) ids ≡ lookup (same_id i) is) → IsDistinct nat_eq leaves → ((q : ℕ) → list_any (nat_eq q) leaves ≡ list_any (nat_eq q) ls) → IsRight nodes marks cs ids leaves
same_right {ns} {ms} {cs} {is} {ls} right nodes marks ids leaves e f g once h =
    subst (λ (l : List BlockIndex). IsRight l marks cs ids leaves) (sym e) (subst (λ (l : List Mark). IsRight ns l cs ids leaves) (sym f) (record {
      some = right.some;
      room = right.room;
      same = right.same;
      are_nodes = right.are_nodes;
      are_marks = right.are_marks;
      genesis = right.genesis;
      are_calls = right.are_calls;
      in_order = right.in_order;
      are_ids = λ i. g i ∙ right.are_ids i;
      are_leaves = leaves_same (blocks_of ns) ls leaves right.are_leaves once h;
    }))

pub invariant_of-self-2 : goal.invariant_of-self-2
invariant_of-self-2 g c =
    let u = c.index.result.now in
    let n = c.node_on-node.result in
    let at : u ≡ get_or c.self.inside.marks.items c.args.new.parent u = c.index.ensures ∙ ap (λ (l : List Mark). get_or l c.args.new.parent u) c.in_ok-reserve_one-2.ensures.items in
    let place : c.len-place.result ≡ length c.self.inside.nodes.items = let e = c.len-place.ensures in let v = ap (λ (l : List BlockIndex). length l) c.in_ok-reserve_one.ensures.items in omega arith in
    right_kept c.self.invariant c.self.view_is n u.usable c.node_on-node.ensures.kept
    (one_more n c.push_reserved.ensures.items c.in_ok-reserve_one.ensures.items) (one_more (new_mark u.usable) c.push_reserved-2.ensures.items c.in_ok-reserve_one-2.ensures.items)
    (subst (λ (l : List BlockIndex). IsNode (kept_of n ∷ blocks_of l) (length l) n) (c.as_slice.ensures.value ∙ c.in_ok-reserve_one.ensures.items) c.node_on-node.ensures.node)
    c.requires.room c.requires.parent (usable_at c.self.invariant c.self.view_is c.args.new.parent c.requires.parent u at) c.args.new.id c.enter.new.ids.entries c.enter.new.leaves.keys c.requires.id
    (λ i. c.enter.ensures.ids i ∙ ap (λ (x : ℕ). cond (same_id c.args.new.id i) (Some x) (lookup (same_id i) c.reserve_leaf.new.ids.entries)) place
    ∙ ap (cond (same_id c.args.new.id i) (Some (length c.self.inside.nodes.items))) (c.in_ok-reserve_leaf.ensures.ids i))
    c.enter.ensures.once
    (λ q. c.enter.ensures.leaves q ∙ ap (λ (x : ℕ). cond (eqb x q) true (cond (eqb c.args.new.parent q) false (list_any (nat_eq q) c.reserve_leaf.new.leaves.keys))) place
    ∙ ap (λ b. cond (eqb (length c.self.inside.nodes.items) q) true (cond (eqb c.args.new.parent q) false b)) (c.in_ok-reserve_leaf.ensures.leaves q))

pub returns-clause-ok : goal.returns-clause-ok
returns-clause-ok g c =
    let u = c.index.result.now.usable in
    state_kept c.self.invariant c.self.view_is c.node_on-node.result u c.node_on-node.ensures.kept
    (one_more c.node_on-node.result c.push_reserved.ensures.items c.in_ok-reserve_one.ensures.items) (one_more (new_mark u) c.push_reserved-2.ensures.items c.in_ok-reserve_one-2.ensures.items)
