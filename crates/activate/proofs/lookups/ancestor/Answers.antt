use Rattle.std.proofs.Common.{◌<◌, sym, ap, ◌∙◌, arith}
use Rattle.tree.specs.Branches.{height}
use Rattle.tree.specs.laws.Parents.{parent-kept, parent-below}
use Rattle.activate.specs.Lookups.{ancestor_at}
use Rattle.activate.specs.laws.Lookups.{above-genesis, ancestor-below, ancestor-here, ancestor-none}
use Rattle.activate.proofs.lookups.ancestor.Goals as goal

pub returns-then-found-height-clause-value : goal.returns-then-found-height-clause-value
returns-then-found-height-clause-value c =
    let t = c.args.tree.now.blocks in
    let e = c.height-found.ensures.value in
    let less = c.if-found-height.true in
    sym (ancestor-none t c.args.height c.down.next c.down.invariant.kept (omega arith)) ∙ c.down.invariant.same

pub returns-then-found-height-2-clause-value : goal.returns-then-found-height-2-clause-value
returns-then-found-height-2-clause-value c =
    let t = c.args.tree.now.blocks in
    sym (ancestor-here t c.args.height c.down.next c.down.invariant.kept (sym c.height-found.ensures.value ∙ c.if-found-height-2.true)) ∙ c.down.invariant.same

pub down-smaller : goal.down-smaller
down-smaller c =
    let t = c.args.tree.now.blocks in
    let e = c.height-found.ensures.value in
    let less = c.if-found-height.false in
    let other = c.if-found-height-2.false in
    let b = parent-below t c.down.next (above-genesis t c.args.height c.down.next (omega arith)) c.down.invariant.kept in
    let f = c.parent-next.ensures in
    omega arith

pub down-preserved : goal.down-preserved
down-preserved c =
    let t = c.args.tree.now.blocks in
    let k = c.down.invariant.kept in
    let e = c.height-found.ensures.value in
    let less = c.if-found-height.false in
    let other = c.if-found-height-2.false in
    let high : c.args.height < height t c.down.next = omega arith in
    let z = above-genesis t c.args.height c.down.next high in
    let f = c.parent-next.ensures in
    let up = parent-kept t c.down.next z k in
    record {
      kept = omega arith;
      same = ap (λ x. ancestor_at t x c.args.height) f ∙ sym (ancestor-below t c.args.height c.down.next z k high) ∙ c.down.invariant.same;
    }
