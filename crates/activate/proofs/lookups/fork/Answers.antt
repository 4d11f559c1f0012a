use Rattle.std.proofs.Common.{◌<◌, sym, ap, ◌∙◌, arith}
use Rattle.tree.specs.Tips.{last_shared}
use Rattle.tree.specs.laws.Parents.{parent-kept, parent-below}
use Rattle.activate.specs.laws.Lookups.{fork-end, fork-left, fork-right}
use Rattle.activate.proofs.lookups.fork.Goals as goal

pub returns-then-left-right-clause-value : goal.returns-then-left-right-clause-value
returns-then-left-right-clause-value c =
    let t = c.args.tree.now.blocks in
    sym (fork-end t c.down.left c.down.invariant.left_kept) ∙ ap (last_shared t c.down.left) c.if-left-right.true ∙ c.down.invariant.same

pub down-smaller-then-left-right-2 : goal.down-smaller-then-left-right-2
down-smaller-then-left-right-2 c =
    let t = c.args.tree.now.blocks in
    let less = c.if-left-right-2.true in
    let b = parent-below t c.down.right (omega arith) c.down.invariant.right_kept in
    let e = c.parent-right.ensures in
    omega arith

pub down-preserved-then-left-right-2 : goal.down-preserved-then-left-right-2
down-preserved-then-left-right-2 c =
    let t = c.args.tree.now.blocks in
    let k = c.down.invariant.right_kept in
    let less = c.if-left-right-2.true in
    let up = parent-kept t c.down.right (omega arith) k in
    let e = c.parent-right.ensures in
    record {
      left_kept = c.down.invariant.left_kept;
      right_kept = omega arith;
      same = ap (last_shared t c.down.left) e ∙ sym (fork-right t c.down.left c.down.right less k) ∙ c.down.invariant.same;
    }

pub down-smaller : goal.down-smaller
down-smaller c =
    let t = c.args.tree.now.blocks in
    let less = c.if-left-right-2.false in
    let other = c.if-left-right.false in
    let b = parent-below t c.down.left (omega arith) c.down.invariant.left_kept in
    let e = c.parent-left.ensures in
    omega arith

pub down-preserved : goal.down-preserved
down-preserved c =
    let t = c.args.tree.now.blocks in
    let k = c.down.invariant.left_kept in
    let less = c.if-left-right-2.false in
    let other = c.if-left-right.false in
    let more : c.down.right < c.down.left = omega arith in
    let up = parent-kept t c.down.left (omega arith) k in
    let e = c.parent-left.ensures in
    record {
      left_kept = omega arith;
      right_kept = c.down.invariant.right_kept;
      same = ap (λ x. last_shared t x c.down.right) e ∙ sym (fork-left t c.down.left c.down.right more k) ∙ c.down.invariant.same;
    }
