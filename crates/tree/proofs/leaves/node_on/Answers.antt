use Rattle.std.proofs.Common.{◌≡◌, ℕ, suc, ◌+◌, ◌<◌, List, ◌∷◌, length, map, take, get_or, sym, ap, ◌∙◌, subst, arith}
use Rattle.block.specs.declared.block.Block.{Block}
use Rattle.locks.specs.MedianTime.{median_of}
use Rattle.tree.specs.declared.block_index.BlockIndex.{BlockIndex}
use Rattle.tree.specs.Branches.{Blocks, blocks_at, branch, height}
use Rattle.tree.specs.MedianTime.{time_of, median_time_past}
use Rattle.tree.specs.Names.{names}
use Rattle.tree.specs.Nodes.{blocks_of, kept_of}
use Rattle.tree.specs.inside.Nodes.{AreNodes, IsNode}
use Rattle.tree.specs.laws.Branches.{parent_here, height_here}
use Rattle.tree.specs.laws.Parents.{height-place}
use Rattle.tree.specs.laws.AddedBlock.{block_here, id_here, blocks-new}
use Rattle.tree.proofs.Views.{length-blocks}
use Rattle.tree.proofs.leaves.node_on.Goals as goal

-- the parent's height, and its bound
height_is : (ns : List BlockIndex) (p : ℕ) (n : BlockIndex) → AreNodes (blocks_of ns) ns → p < length ns → (get_or ns p n).height ≡ height (blocks_of ns) p
height_is ns p n nodes h = (nodes p n h).height

pub overflow_add-height : goal.overflow_add-height
overflow_add-height c =
    let ns = c.args.nodes.now in
    let p = c.args.parent in
    let h = c.requires.kept in
    let k = length-blocks ns (omega arith) in
    let e = height_is ns p c.index-nodes-parent.result c.requires.nodes h in
    let b = height-place (blocks_of ns) p p (omega arith) (omega arith) in
    let r = c.requires.room in
    omega arith

median_new : (t : Blocks Block) (n : BlockIndex) (m : ℕ) → m ≡ median_of (take 11 (n.block.header.time ∷ map time_of (blocks_at names t (branch t n.parent))))
    → m ≡ median_time_past (blocks_at names (kept_of n ∷ t) (branch (kept_of n ∷ t) (suc (length t))))
unfolding median_time_past
median_new t n m e = e ∙ ap (λ (l : List Block). median_of (take 11 (map time_of l))) (sym (blocks-new names (kept_of n) t))

pub returns-clause-node : goal.returns-clause-node
returns-clause-node c =
    let ns = c.args.nodes.now in
    let t = blocks_of ns in
    let p = c.args.parent in
    let h = c.requires.kept in
    let k = length-blocks ns (omega arith) in
    let n : BlockIndex = record { block = c.args.block; id = c.args.id; parent = p; height = (get_or ns p c.index-nodes-parent.result).height + 1; median = c.median_on-median.result } in
    let e = height_is ns p c.index-nodes-parent.result c.requires.nodes h in
    let up = height_here (kept_of n) t (omega arith) in
    subst (λ (q : ℕ). IsNode (kept_of n ∷ t) q n) k (record {
      block = sym (block_here names (kept_of n) t);
      id = c.requires.id ∙ sym (id_here names (kept_of n) t);
      parent = sym (parent_here (kept_of n) t (omega arith));
      height = omega arith;
      median = median_new t n c.median_on-median.result (subst (λ (x : ℕ). c.median_on-median.result ≡ median_of (take 11 (x ∷ map time_of (blocks_at names t (branch t p))))) c.time.ensures c.median_on-median.ensures);
    })
