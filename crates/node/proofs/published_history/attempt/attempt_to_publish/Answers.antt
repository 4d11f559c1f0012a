use Rattle.std.proofs.Common.{◌≡◌, ◌++◌, ◌∷◌, [], List, drop, refl, ap, sym, ◌∙◌}
use Rattle.view.specs.declared.publication.Publication.{Publication}
use Rattle.view.specs.ViewState.{ViewState, after_publications}
use Rattle.node.proofs.Publications.{due_then, shown_then}
use Rattle.node.proofs.published_history.attempt.attempt_to_publish.Goals as goal

pub returns-in-Some-clause-shown : goal.returns-in-Some-clause-shown
returns-in-Some-clause-shown g c =
    let x : ViewState = c.args.writer.desk.shown.value in
    let y : ViewState = c.publish-writer.result.0.desk.shown.value in
    let pending : List Publication = drop c.args.writer.behind c.args.writer.log.items in
    let same : y ≡ after_publications x (pending ++ c.args.publication ∷ []) = rw (c.in-Ok-true.is, c.in-Ok-true.field-0-test) at c.publish-writer.ensures.shown in
    let exact = c.publish-writer.ensures.exact in
    let t = shown_then x y pending c.args.publication c.requires.follows same exact in
    record {
      origin_is = t.0;
      journal_is = sym (c.in-Some.ensures.1 ∙ ap (λ (v : ViewState). v.journal) c.published.ensures);
      exact = exact;
    }

pub returns-in-Ok-false-clause-due : goal.returns-in-Ok-false-clause-due
returns-in-Ok-false-clause-due g c =
    let x : ViewState = c.args.writer.desk.shown.value in
    let y : ViewState = c.publish-writer.result.0.desk.shown.value in
    let pending : List Publication = drop c.args.writer.behind c.args.writer.log.items in
    let left : List Publication = drop c.publish-writer.result.0.behind c.publish-writer.result.0.log.items in
    let same : y ≡ x = rw (c.in-Ok-false.is, c.in-Ok-false.field-0-test) at c.publish-writer.ensures.shown in
    let grown : left ≡ pending ++ c.args.publication ∷ [] = rw (c.in-Ok-false.is, c.in-Ok-false.field-0-test) at c.publish-writer.ensures.pending in
    due_then c.args.publication.is_new x y pending left _ c.args.publication.changes c.args.publication c.requires.due c.requires.follows (sym c.requires.shown.journal_is) refl same grown
