-- What is seen of a tree that is right.
use Rattle.std.proofs.Common.{◌≡◌, ℕ, suc, ◌+◌, ◌-◌, ◌<◌, ◌≤◌, Bool, true, List, [], ◌∷◌, ◌++◌, length, map, reverse, get_or, sym, refl, ap, ◌∙◌, subst, arith, Option}
use Rattle.std.proofs.lemmas.List.{length-reverse, length-map, reverse-append, map-append, get_or_default}
use Rattle.hash.specs.declared.id.Id.{Id}
use Rattle.block.specs.declared.block.Block.{Block}
use Rattle.tree.specs.declared.block_index.BlockIndex.{BlockIndex}
use Rattle.tree.specs.declared.block_index.Mark.{Mark}
use Rattle.tree.specs.Branches.{Blocks, has, down_from}
use Rattle.tree.specs.State.{State, has_no_mark, rank, union_where}
use Rattle.tree.specs.Nodes.{kept_of, blocks_of, blank, mark_at, places_where, state_of}
use Rattle.tree.specs.inside.Nodes.{IsNode, IsRight, AreIds}
use Rattle.tree.specs.inside.Leaves.{AreLeaves}
use Rattle.tree.specs.laws.Sets.{has-filter, filter_agree, has_filter-above}

-- ---- the nodes as blocks

pub length-blocks : (ns : List BlockIndex) → 0 < length ns → suc (length (blocks_of ns)) ≡ length ns
unfolding blocks_of
length-blocks [] h = absurd (omega arith)
length-blocks (n ∷ ns) h = ap suc (length-reverse (map kept_of ns) ∙ length-map ns kept_of)

-- a node that is pushed is the newest block
pub blocks-push : (ns : List BlockIndex) (n : BlockIndex) → 0 < length ns → ◌≡◌ {A = Blocks Block} (blocks_of (ns ++ n ∷ [])) (kept_of n ∷ blocks_of ns)
unfolding blocks_of
blocks-push [] n h = absurd (omega arith)
blocks-push (m ∷ ns) n h = ap reverse (map-append kept_of ns (n ∷ [])) ∙ reverse-append (map kept_of ns) (kept_of n ∷ [])

-- ---- the marks as sets of places

module _ (f : Mark → Bool) where
  pub has-where : (ms : List Mark) (p : ℕ) → p < length ms → has (places_where f ms) p ≡ f (mark_at ms p)
  unfolding places_where
  has-where ms p h = has-filter (λ q. f (mark_at ms q)) (length ms - 1) p (omega arith)

  pub has_where-above : (ms : List Mark) (p : ℕ) → 0 < length ms → length ms ≤ p → has (places_where f ms) p ≡ Rattle.std.proofs.Common.false
  unfolding places_where
  has_where-above ms p z h = has_filter-above (λ q. f (mark_at ms q)) (length ms - 1) p (omega arith)

  -- marks that pass as before give the same places
  pub where_agree : (ms ls : List Mark) → length ls ≡ length ms → ((p : ℕ) → p < length ms → f (mark_at ls p) ≡ f (mark_at ms p)) → 0 < length ms → places_where f ls ≡ places_where f ms
  unfolding places_where
  where_agree ms ls e h z =
      ap (λ (n : ℕ). Rattle.std.specs.List.filter (λ q. f (mark_at ls q)) (down_from (n - 1))) e
      ∙ filter_agree (λ q. f (mark_at ls q)) (λ q. f (mark_at ms q)) (length ms - 1) (λ q l. h q (omega arith))

  -- and where more pass, those join
  pub where_joined : (n : ℕ) (ms ls : List Mark) (g : ℕ → Bool) → length ms ≡ suc n → length ls ≡ length ms → ((p : ℕ) → p < length ms → f (mark_at ls p) ≡ Rattle.std.specs.Prelude.◌||◌ (f (mark_at ms p)) (g p)) → places_where f ls ≡ union_where (down_from n) (places_where f ms) g
  unfolding places_where union_where
  where_joined n ms ls g e d h =
      let k : length ls - 1 ≡ n = omega arith in
      ap (λ (m : ℕ). Rattle.std.specs.List.filter (λ q. f (mark_at ls q)) (down_from m)) k
      ∙ filter_agree (λ q. f (mark_at ls q)) (λ q. Rattle.std.specs.Prelude.◌||◌ (has (places_where f ms) q) (g q)) n
      (λ q l. h q (omega arith) ∙ ap (λ b. Rattle.std.specs.Prelude.◌||◌ b (g q)) (sym (has-where ms q (omega arith))))

-- ---- a tree

module _ {ns : List BlockIndex} {ms : List Mark} {cs : List ℕ} {is : List (Id × ℕ)} {ls : List ℕ} (right : IsRight ns ms cs is ls) {s : State Block} (view : state_of ns ms cs ≡ s) where
  pub kept : length ns ≡ suc (length s.blocks)
  unfolding state_of
  kept = sym (length-blocks ns right.some) ∙ ap (λ (t : State Block). suc (length t.blocks)) view

  pub node_at : (p : ℕ) → p ≤ length s.blocks → (n : BlockIndex) → n ≡ get_or ns p n → IsNode s.blocks p n
  unfolding state_of
  node_at p h n e =
      let k = kept in
      subst (λ (t : State Block). IsNode t.blocks p n) view (subst (IsNode (blocks_of ns) p) (sym e) (right.are_nodes p n (omega arith)))

  mark_is : (p : ℕ) → p ≤ length s.blocks → (m : Mark) → m ≡ get_or ms p m → m ≡ mark_at ms p
  mark_is p h m e = let k = kept in let l = right.same in e ∙ get_or_default ms p m blank (omega arith)

  pub usable_at : (p : ℕ) → p ≤ length s.blocks → (m : Mark) → m ≡ get_or ms p m → m.usable ≡ has_no_mark s p
  usable_at p h m e =
      let k = kept in
      ap (λ (x : Mark). x.usable) (mark_is p h m e) ∙ (right.are_marks p (omega arith)).usable ∙ ap (λ (t : State Block). has_no_mark t p) view

  pub rank_at : (p : ℕ) → p ≤ length s.blocks → (m : Mark) → m ≡ get_or ms p m → m.rank ≡ rank s p
  rank_at p h m e =
      let k = kept in
      ap (λ (x : Mark). x.rank) (mark_is p h m e) ∙ (right.are_marks p (omega arith)).rank ∙ ap (λ (t : State Block). rank t p) view

  pub seen_at : (p : ℕ) → p ≤ length s.blocks → (m : Mark) → m ≡ get_or ms p m → m.seen ≡ has s.seen p
  unfolding state_of
  seen_at p h m e =
      let k = kept in let l = right.same in
      ap (λ (x : Mark). x.seen) (mark_is p h m e) ∙ sym (has-where (λ m. m.seen) ms p (omega arith)) ∙ ap (λ (t : State Block). has t.seen p) view

  pub bad_at : (p : ℕ) → p ≤ length s.blocks → (m : Mark) → m ≡ get_or ms p m → m.bad ≡ has s.bad p
  unfolding state_of
  bad_at p h m e =
      let k = kept in let l = right.same in
      ap (λ (x : Mark). x.bad) (mark_is p h m e) ∙ sym (has-where (λ m. m.bad) ms p (omega arith)) ∙ ap (λ (t : State Block). has t.bad p) view

  pub ids_are : AreIds s.blocks is
  unfolding state_of
  ids_are = subst (λ (t : State Block). AreIds t.blocks is) view right.are_ids

  pub leaves_at : AreLeaves s.blocks ls
  unfolding state_of
  leaves_at = subst (λ (t : State Block). AreLeaves t.blocks ls) view right.are_leaves
