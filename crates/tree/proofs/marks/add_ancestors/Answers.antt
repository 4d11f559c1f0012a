use Rattle.std.proofs.Common.{ℕ, true, false, ◌||◌, get_or, sym, ap, ◌∙◌, arith}
use Rattle.std.proofs.Math.ListN.{set}
use Rattle.std.proofs.lemmas.List.{length-set}
use Rattle.tree.specs.declared.block_index.BlockIndex.{BlockIndex}
use Rattle.tree.specs.Branches.{on}
use Rattle.tree.specs.Nodes.{blocks_of}
use Rattle.tree.proofs.Changes.{parent_before}
use Rattle.tree.proofs.ClearedMarks.{up_end, up_on}
use Rattle.tree.proofs.marks.add_ancestors.Goals as goal

pub returns-then-next-eq0-clause-up : goal.returns-then-next-eq0-clause-up
returns-then-next-eq0-clause-up c = λ x h.
    let i = c.down.invariant in
    let k = i.0 in
    let l = i.1 in
    up_end c.args.nodes.now c.down.related.items c.down.next x _ c.if-next-eq0.true (omega arith) (i.2 x h)

pub down-smaller : goal.down-smaller
down-smaller c =
    let z = c.if-next-eq0.false in
    let b = (parent_before c.args.nodes.now c.down.next c.index-nodes-next.result c.requires.nodes (omega arith) c.down.invariant.0 c.index-nodes-next.is).1 in
    let e = ap (λ (n : BlockIndex). n.parent) c.index-nodes-next.is in
    omega arith

pub down-preserved : goal.down-preserved
down-preserved c =
    let ns = c.args.nodes.now in
    let n = c.index-nodes-next.result in
    let z = c.if-next-eq0.false in
    let i = c.down.invariant in
    let k = i.0 in
    let l = i.1 in
    let b = (parent_before ns c.down.next n c.requires.nodes (omega arith) k c.index-nodes-next.is).1 in
    let e = ap (λ (m : BlockIndex). m.parent) c.index-nodes-next.is in (
      omega arith,
      length-set c.down.related.items c.down.next true ∙ l,
      λ x h. ap (λ (q : ℕ). on (blocks_of ns) q x || get_or (set c.down.related.items c.down.next true) x false) (sym e)
          ∙ up_on ns c.down.related.items c.down.next n x _ c.requires.nodes (omega arith) k (omega arith) c.index-nodes-next.is (i.2 x h),
    )
