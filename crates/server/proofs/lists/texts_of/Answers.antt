use Rattle.std.proofs.Common.{List, ◌+◌, map, take, subst, sym, rules}
use Rattle.server.specs.inside.Lists.{AreSteps, text_json}
use Rattle.server.specs.declared.lists.EntryText.{EntryText}
use Rattle.server.proofs.Steps.{next_step}
use Rattle.server.proofs.lists.texts_of.Goals as goal

pub loop-place-preserved : goal.loop-place-preserved
loop-place-preserved c =
    subst (λ (l : List EntryText). AreSteps c.args.first (take (c.loop-place.place + 1) c.args.entries.now) (map text_json l)) (sym c.in_ok-push.ensures.items)
    (next_step c.args.first c.loop-place.place c.in-Some.number c.args.entries.now c.index-entries-place.result c.loop-place.texts.items c.in_ok-entry_text.field-0
    c.loop-place-test.true c.index-entries-place.is (search rules) c.loop-place.invariant c.in_ok-entry_text.ensures)
