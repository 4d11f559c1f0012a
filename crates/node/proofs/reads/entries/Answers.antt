use Rattle.std.proofs.Common.{◌≡◌, ◌-◌, List, ap, subst, ◌∙◌, drop, take, min, length, arith}
use Rattle.std.specs.Prelude.{IfOk}
use Rattle.std.proofs.lemmas.List.{take_all, take_min, drop_min, length-drop}
use Rattle.model.specs.declared.entry.Entry.{Entry}
use Rattle.node.proofs.reads.entries.Goals as goal

pub returns : goal.returns
returns c =
    let journal = c.journal-journal.result.now in
    let front = take c.min.result journal in
    let at = c.min-2.result in
    let same : take (length front - at) (drop at front) ≡ drop c.args.from (take c.args.to c.args.view.now.journal) =
    take_all (length front - at) (drop at front) (omega (arith, length-drop at front))
    ∙ ap (λ n. drop n front) c.min-2.ensures
    ∙ drop_min c.args.from front
    ∙ ap (λ n. drop c.args.from (take n journal)) c.min.ensures
    ∙ ap (drop c.args.from) (take_min c.args.to journal)
    ∙ ap (λ l. drop c.args.from (take c.args.to l)) c.journal-journal.ensures in
    subst (λ (l : List Entry). IfOk c.copies.result (λ list. list.items ≡ l)) same c.copies.ensures
