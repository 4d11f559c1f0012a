use Rattle.std.proofs.Common.{Some, sym, ap, ◌∙◌, arith}
use Rattle.activate.specs.laws.ByHeight.{place-of}
use Rattle.activate.specs.laws.Lookups.{packed-at, packed-size, spent-off, spent-on, stands-on, undo-first}
use Rattle.activate.proofs.lookups.ActiveBlocks.spent_at.Goals as goal

pub returns-then-not-stands_at : goal.returns-then-not-stands_at
returns-then-not-stands_at c =
    let b = c.args.self.now in
    let r = c.requires.branch in
    let o = stands-on b.tree.now.blocks b.active r.kept b.branch.now r.places_are c.args.place c.height-height.result c.stands_at.result c.stands_at.ensures c.height-height.ensures.value ∙ c.if-not-stands_at.true in
    sym (spent-off b.tree.now.blocks b.active c.args.place o)

pub returns-then-height-eq0 : goal.returns-then-height-eq0
returns-then-height-eq0 c =
    let b = c.args.self.now in
    let t = b.tree.now.blocks in
    let r = c.requires.branch in
    let o = stands-on t b.active r.kept b.branch.now r.places_are c.args.place c.height-height.result c.stands_at.result c.stands_at.ensures c.height-height.ensures.value ∙ c.if-not-stands_at.false in
    let first = undo-first t b.active r.kept b.branch.now r.places_are b.packed.now r.packed_are c.args.place o (sym c.height-height.ensures.value ∙ c.if-height-eq0.true) in
    ap Some (c.new.ensures ∙ sym first) ∙ sym (spent-on t b.active c.args.place o)

pub bounds-self-height : goal.bounds-self-height
bounds-self-height c =
    let b = c.args.self.now in
    let t = b.tree.now.blocks in
    let r = c.requires.branch in
    let o = stands-on t b.active r.kept b.branch.now r.places_are c.args.place c.height-height.result c.stands_at.result c.stands_at.ensures c.height-height.ensures.value ∙ c.if-not-stands_at.false in
    let low = (place-of t b.active r.kept c.args.place o).0 in
    let e = c.height-height.ensures.value in
    let some = c.if-height-eq0.false in
    let size = packed-size t b.active r.kept b.branch.now r.places_are b.packed.now r.packed_are in
    omega arith

pub returns : goal.returns
returns c =
    let b = c.args.self.now in
    let t = b.tree.now.blocks in
    let r = c.requires.branch in
    let o = stands-on t b.active r.kept b.branch.now r.places_are c.args.place c.height-height.result c.stands_at.result c.stands_at.ensures c.height-height.ensures.value ∙ c.if-not-stands_at.false in
    let e = c.height-height.ensures.value in
    let other = c.if-height-eq0.false in
    ap Some (packed-at t b.active r.kept b.branch.now r.places_are b.packed.now r.packed_are c.args.place o c.height-height.result e (omega arith) c.in_ok-undo.undo _ c.in_ok-undo.ensures)
    ∙ sym (spent-on t b.active c.args.place o)
