use Rattle.std.proofs.Common.{rules, ◌≡◌, Option, Some, subst}
use Rattle.std.specs.Prelude.{IfSome}
use mathlib.Core.List.{IsPrefix}
use Rattle.queue.specs.Jobs.{IsEarly}
use Rattle.view.specs.Origin.{known_in}
use Rattle.node.proofs.Growth.{early_along}
use Rattle.node.proofs.OwnEntries.{begins_whole}
use Rattle.node.proofs.learnt.still_early.Goals as goal

pub returns-then-begins : goal.returns-then-begins
returns-then-begins g c =
    let o = g.J.Naming.origin in
    let e = c.in_ok-verdicts.field-0 in
    let is : c.args.early ≡ Some e = search rules in
    let early : IsEarly (known_in o e.seen.entries) e.verdicts = subst (λ x. IfSome x (λ e. IsEarly (known_in o e.seen.entries) e.verdicts)) is c.requires.early in
    let goes : IsPrefix e.seen.entries c.note.result.entries = search rules in
    early_along o e.seen.entries c.args.history.now.journal e.verdicts c.note.ensures.whole (begins_whole _ _ _ goes c.note.ensures.begins) early
