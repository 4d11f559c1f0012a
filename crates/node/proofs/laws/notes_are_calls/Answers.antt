use Rattle.std.proofs.Common.{List, refl, sym, subst}
use Rattle.model.specs.declared.entry.Entry.{Entry}
use Rattle.node.specs.Pass.{IsLonger}
use Rattle.node.specs.laws.Runs.{longer_turned}
use Rattle.node.proofs.laws.notes_are_calls.Goals as goal

pub returns-clause-seat : goal.returns-clause-seat
returns-clause-seat g c =
    let m = c.meet.ensures in
    let t = c.told.ensures in (
      c.meet.new.self,
      (m.later.0, m.mine.0, m.longer),
      (
        c.told.new.self,
        (t.later, t.mine, t.longer),
        (c.told.new.self, (refl, c.note.ensures.seen), refl),
      ),
    )

pub returns-clause-other : goal.returns-clause-other
returns-clause-other g c =
    let xs = c.args.seat.now.seen in
    let ys = c.args.other.now.seen in
    let turned = longer_turned xs ys c.meet.new.self.seen c.meet.ensures.longer in
    let longer = subst (λ (zs : List Entry). IsLonger ys xs zs) (sym c.meet.ensures.same) turned in
    (c.meet.new.other, (c.meet.ensures.later.1, c.meet.ensures.mine.1, longer), refl)
