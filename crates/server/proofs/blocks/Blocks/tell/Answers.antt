use mathlib.Core.List.{IsPrefix}
use Rattle.std.proofs.Common.{List, ◌∙◌, refl, sym, ap, subst}
use Rattle.model.specs.declared.entry.Entry.{Entry}
use Rattle.server.specs.inside.Brought.{Index, seen_by}
use Rattle.server.proofs.Brought.{begins_longer}
use Rattle.server.proofs.blocks.Blocks.tell.Goals as goal

pub returns-in-Some-clause-seen : goal.returns-in-Some-clause-seen
returns-in-Some-clause-seen g c =
    subst (λ (l : List Entry). IsPrefix l c.told.new.self.seen) (sym (ap seen_by c.in-Some.is) ∙ ap (λ (i : Index). i.seen) c.self.view_is)
    (begins_longer c.args.seat.now.seen c.in-Some.note.seen c.told.new.self.seen c.told.ensures.longer)

pub returns-in-None-clause-seen : goal.returns-in-None-clause-seen
returns-in-None-clause-seen g c =
    subst (λ (l : List Entry). IsPrefix l c.told-in-None.new.self.seen) (sym (ap seen_by c.in-None.is) ∙ ap (λ (i : Index). i.seen) c.self.view_is)
    (c.told-in-None.new.self.seen, refl)
