use Rattle.std.proofs.Common.{◌+◌, ◌-◌, suc, Some, sym, ap, ◌∙◌, arith}
use Rattle.tree.specs.Branches.{height}
use Rattle.activate.specs.laws.ByHeight.{place-of}
use Rattle.activate.specs.laws.Lookups.{depth-off, depth-on, stands-on}
use Rattle.activate.proofs.lookups.ActiveBlocks.depth.Goals as goal

pub returns-then-not-stands_at-clause-value : goal.returns-then-not-stands_at-clause-value
returns-then-not-stands_at-clause-value c =
    let b = c.args.self.now in
    let r = c.requires.branch in
    let o = stands-on b.tree.now.blocks b.active r.kept b.branch.now r.places_are c.args.place c.height-height.result c.stands_at.result c.stands_at.ensures c.height-height.ensures.value ∙ c.if-not-stands_at.true in
    sym (depth-off b.tree.now.blocks b.active c.args.place o)

pub overflow_sub-result : goal.overflow_sub-result
overflow_sub-result c =
    let b = c.args.self.now in
    let r = c.requires.branch in
    let o = stands-on b.tree.now.blocks b.active r.kept b.branch.now r.places_are c.args.place c.height-height.result c.stands_at.result c.stands_at.ensures c.height-height.ensures.value ∙ c.if-not-stands_at.false in
    let low = (place-of b.tree.now.blocks b.active r.kept c.args.place o).0 in
    let e = c.height-height.ensures.value in
    let f = c.height.ensures.value in
    omega arith

pub returns-clause-value : goal.returns-clause-value
returns-clause-value c =
    let b = c.args.self.now in
    let t = b.tree.now.blocks in
    let r = c.requires.branch in
    let o = stands-on t b.active r.kept b.branch.now r.places_are c.args.place c.height-height.result c.stands_at.result c.stands_at.ensures c.height-height.ensures.value ∙ c.if-not-stands_at.false in
    let low = (place-of t b.active r.kept c.args.place o).0 in
    let e = c.height-height.ensures.value in
    let f = c.height.ensures.value in
    ap Some {x = c.height.result - c.height-height.result + 1} {y = suc (height t b.active - height t c.args.place)} (omega arith) ∙ sym (depth-on t b.active c.args.place o)
