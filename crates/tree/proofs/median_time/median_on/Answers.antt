use Rattle.std.proofs.Common.{◌≡◌, ℕ, List, ◌∷◌, ◌++◌, ◌+◌, take, set, get_or, sym, ap, ◌∙◌, arith}
use Rattle.std.proofs.lemmas.List.{length-set, get_or_default}
use Rattle.locks.specs.MedianTime.{median_of}
use Rattle.tree.specs.MedianTime.{time_of}
use Rattle.tree.specs.Nodes.{blocks_of}
use Rattle.tree.proofs.Changes.{parent_before}
use Rattle.tree.proofs.Times.{times_on, times_down, times_end, put_next, all_put, first_of_all}
use Rattle.tree.proofs.median_time.median_on.Goals as goal

pub returns-then-next-eq0 : goal.returns-then-next-eq0
returns-then-next-eq0 c =
    let ns = c.args.nodes.now in
    let t = blocks_of ns in
    let p = c.loop-count.next in
    let i = c.loop-count.invariant in
    let n = get_or ns p c.index-nodes-next.result in
    let is = get_or_default ns p c.index-nodes-next.result n i.0 in
    let l = i.1 in
    let h = c.loop-count-test.true in
    let v : c.time.result ≡ time_of n.block = c.time.ensures in
    c.median.ensures.value
    ∙ ap median_of (ap (λ (x : ℕ). take (c.loop-count.count + 1) (set c.loop-count.times c.loop-count.count x)) v
    ∙ all_put c.loop-count.times (c.args.time ∷ times_on t c.args.parent) c.loop-count.count (time_of n.block) (omega arith) l
    (ap (λ (x : List ℕ). take c.loop-count.count c.loop-count.times ++ x) (sym (times_end ns p n c.requires.nodes c.if-next-eq0.true i.0 is)) ∙ i.2))

pub loop-count-preserved : goal.loop-count-preserved
loop-count-preserved c =
    let ns = c.args.nodes.now in
    let t = blocks_of ns in
    let p = c.loop-count.next in
    let i = c.loop-count.invariant in
    let n = get_or ns p c.index-nodes-next.result in
    let is = get_or_default ns p c.index-nodes-next.result n i.0 in
    let z = c.if-next-eq0.false in
    let g = i.0 in
    let l = i.1 in
    let h = c.loop-count-test.true in
    let same : (get_or ns p c.index-nodes-next-in-loop-count.result).parent ≡ n.parent = ap (λ x. x.parent) (get_or_default ns p c.index-nodes-next-in-loop-count.result c.index-nodes-next.result g) in
    let b = parent_before ns p n c.requires.nodes (omega arith) g is in
    let low = b.1 in
    let v : c.time.result ≡ time_of n.block = c.time.ensures in (
      omega arith,
      length-set c.loop-count.times c.loop-count.count c.time.result ∙ l,
      ap (λ (x : ℕ). take (c.loop-count.count + 1) (set c.loop-count.times c.loop-count.count x) ++ times_on t (get_or ns p c.index-nodes-next-in-loop-count.result).parent) v
          ∙ put_next c.loop-count.times (times_on t (get_or ns p c.index-nodes-next-in-loop-count.result).parent) (c.args.time ∷ times_on t c.args.parent) c.loop-count.count (time_of n.block) (omega arith)
          (ap (λ (x : List ℕ). take c.loop-count.count c.loop-count.times ++ x) (ap (λ (q : ℕ). time_of n.block ∷ times_on t q) same ∙ sym (times_down ns p n c.requires.nodes (omega arith) g is)) ∙ i.2),
    )

pub returns : goal.returns
returns c =
    let t = blocks_of c.args.nodes.now in
    let i = c.loop-count.invariant in
    let f = c.loop-count-test.false in
    let a = c.loop-count.auto.count-end (omega arith) in
    let e : c.loop-count.count ≡ 11 = omega arith in
    c.median-2.ensures.value
    ∙ ap median_of (first_of_all c.loop-count.times (times_on t c.loop-count.next) (c.args.time ∷ times_on t c.args.parent) i.1
    (ap (λ (k : ℕ). take k c.loop-count.times ++ times_on t c.loop-count.next) (sym e) ∙ i.2))
