-- A tree of the same blocks as another one.
use Rattle.std.proofs.Common.{◌≡◌, ℕ, suc, ◌+◌, ◌<◌, ◌≤◌, List, [], ◌∷◌, ◌++◌, length, take, get_or, refl, sym, ap, subst, ◌∙◌, inl, inr, arith}
use Rattle.std.proofs.lemmas.Bool.{cases_eq}
use Rattle.std.proofs.lemmas.List.{length-take-le, take_more}
use Rattle.hash.specs.declared.id.Id.{Id}
use Rattle.block.specs.declared.block.Block.{Block}
use Rattle.block.specs.Identity.{id_of}
use Rattle.tree.specs.declared.new_block.NewBlock.{NewBlock}
use Rattle.tree.specs.declared.block_index.BlockIndex.{BlockIndex}
use Rattle.tree.specs.declared.block_index.Mark.{Mark}
use Rattle.tree.specs.Branches.{Kept, Blocks, id_at, block_at, parent_at}
use Rattle.tree.specs.Limits.{max_blocks}
use Rattle.tree.specs.State.{State, with_block}
use Rattle.tree.specs.Names.{names}
use Rattle.tree.specs.Nodes.{IsMark, CanKeep, kept_of, blocks_of, mark_at, state_of}
use Rattle.tree.specs.inside.Nodes.{IsRight}
use Rattle.tree.specs.laws.AddedBlock.{block_here, block_there, id_here, id_there}
use Rattle.tree.specs.laws.Parents.{parent-below}
use Rattle.tree.proofs.Views.{length-blocks, blocks-push}

-- a block's id is its header's
own_id : (t : Blocks Block) (p : ℕ) → 0 < p → p ≤ length t → id_at names t p ≡ id_of (block_at names t p).header
own_id [] p z h = absurd (omega arith)
own_id (k ∷ older) p z h =
    elim (cases_eq p (suc (length older))) [
      | inl e ↦
          subst (λ (q : ℕ). id_at names (k ∷ older) q ≡ id_of (block_at names (k ∷ older) q).header) (sym e)
          (id_here names k older ∙ ap (λ (b : Block). id_of b.header) (sym (block_here names k older)))
      | inr n ↦
          let below : p ≤ length older = omega arith in
          id_there names k older p below ∙ own_id older p z below ∙ ap (λ (b : Block). id_of b.header) (sym (block_there names k older p below))
    ]

-- the first node alone has no blocks
pub none-first : (ns : List BlockIndex) → ◌≡◌ {A = Blocks Block} (blocks_of (take 1 ns)) []
unfolding blocks_of
none-first [] = refl
none-first (n ∷ ns) = refl

module _ {ns : List BlockIndex} {ms : List Mark} {cs : List ℕ} {is : List (Id × ℕ)} {ls : List ℕ} (right : IsRight ns ms cs is ls) where
  some_long : (p : ℕ) → 1 ≤ p → p ≤ length ns → suc (length (blocks_of (take p ns))) ≡ p
  some_long p z h = let l = length-take-le p ns h in length-blocks (take p ns) (omega arith) ∙ l

  -- the next block can be kept on those before it
  pub can_follow : (p : ℕ) → 1 ≤ p → p < length ns → (n : BlockIndex) → n ≡ get_or ns p n → (s : State Block) → ◌≡◌ {A = Blocks Block} s.blocks (blocks_of (take p ns)) → (new : NewBlock) → new.block ≡ n.block → new.id ≡ n.id → new.parent ≡ n.parent
      → CanKeep s new
  can_follow p z h n is s e new block id parent =
      let t = blocks_of ns in
      let size = length-blocks ns right.some in
      let below : p ≤ length t = omega arith in
      let node = right.are_nodes p n h in
      let long = some_long p z (omega arith) in
      let same = ap (λ (u : Blocks Block). length u) e in
      let room = right.room in
      let low = parent-below t p (omega arith) below in
      let up : new.parent ≡ parent_at t p = parent ∙ ap (λ (x : BlockIndex). x.parent) is ∙ node.parent in
      record {
        room = omega arith;
        id = id ∙ ap (λ (x : BlockIndex). x.id) is ∙ node.id ∙ own_id t p (omega arith) below ∙ ap (λ (b : Block). id_of b.header) (sym (block ∙ ap (λ (x : BlockIndex). x.block) is ∙ node.block));
        parent = omega arith;
      }

  -- and with it they are one more
  pub followed : (p : ℕ) → 1 ≤ p → p < length ns → (n : BlockIndex) → n ≡ get_or ns p n → (s : State Block) → ◌≡◌ {A = Blocks Block} s.blocks (blocks_of (take p ns)) → (b : Block) → b ≡ n.block
      → ◌≡◌ {A = Blocks Block} ((with_block s b n.parent).blocks) (blocks_of (take (p + 1) ns))
  followed p z h n is s e b block =
      let l = length-take-le p ns (omega arith) in
      ap (λ (x : Block). record { block = x; parent = n.parent } ∷ s.blocks) block ∙ ap (λ (u : Blocks Block). kept_of n ∷ u) e
      ∙ sym (ap blocks_of (take_more ns p n h ∙ ap (λ (x : BlockIndex). take p ns ++ x ∷ []) (sym is)) ∙ blocks-push (take p ns) n (omega arith))

-- with the marks and calls of another tree of the same blocks it is as right
pub right_other : {ns : List BlockIndex} {ms : List Mark} {cs : List ℕ} {is : List (Id × ℕ)} {ls : List ℕ} → IsRight ns ms cs is ls
    → {ns2 : List BlockIndex} {ms2 : List Mark} {cs2 : List ℕ} {is2 : List (Id × ℕ)} {ls2 : List ℕ} → IsRight ns2 ms2 cs2 is2 ls2 → ◌≡◌ {A = Blocks Block} (blocks_of ns2) (blocks_of ns) → IsRight ns2 ms cs is2 ls2
unfolding state_of
right_other {ns} {ms} {cs} right {ns2} other e =
    let count : length ns2 ≡ length ns = sym (length-blocks ns2 other.some) ∙ ap (λ (t : Blocks Block). suc (length t)) e ∙ length-blocks ns right.some in
    record {
      some = other.some;
      room = other.room;
      same = right.same ∙ sym count;
      are_nodes = other.are_nodes;
      are_marks = λ p h. subst (λ (t : Blocks Block). IsMark (record (state_of ns ms cs) { blocks = t }) p (mark_at ms p)) (sym e) (right.are_marks p (omega arith));
      genesis = right.genesis;
      are_calls = λ p h. right.are_calls p (omega arith);
      in_order = other.in_order;
      are_ids = other.are_ids;
      are_leaves = other.are_leaves;
    }

-- and is seen as that one
pub state_other : (ns ns2 : List BlockIndex) (ms : List Mark) (cs : List ℕ) → ◌≡◌ {A = Blocks Block} (blocks_of ns2) (blocks_of ns) → state_of ns2 ms cs ≡ state_of ns ms cs
unfolding state_of
state_other ns ns2 ms cs e = ap (λ (t : Blocks Block). record (state_of ns ms cs) { blocks = t }) e

pub blocks_seen : (ns : List BlockIndex) (ms : List Mark) (cs : List ℕ) (s : State Block) → state_of ns ms cs ≡ s → ◌≡◌ {A = Blocks Block} (blocks_of ns) s.blocks
unfolding state_of
blocks_seen ns ms cs s e = ap (λ (x : State Block). x.blocks) e
