use Rattle.std.proofs.Common.{List, ap, subst}
use mathlib.Core.List.{IsPrefix}
use Rattle.model.specs.declared.entry.Entry.{Entry}
use Rattle.view.proofs.Beginnings.{shorter_begins}
use Rattle.view.proofs.seen_history.SeenHistory.begins.Goals as goal

pub returns : goal.returns
returns c =
    let both = c.learn.new.self.log in
    let this : IsPrefix c.self.inside.seen.log both = subst (λ (l : List Entry). IsPrefix l both) (ap (λ s. s.log) c.again-both.ensures) c.learn.ensures.2 in
    rw (← c.self.view_is, ← c.other.view_is) (shorter_begins _ _ both _ _ c.self.invariant c.other.invariant this c.learn.ensures.3)
