use Rattle.std.proofs.Common.{rules, ◌≡◌, List, [], ◌∷◌, ◌++◌, drop, sym, ap, subst}
use Rattle.std.proofs.lemmas.List.{append-nil}
use mathlib.Core.List.{IsPrefix}
use Rattle.view.specs.declared.publication.Publication.{Publication}
use Rattle.view.specs.NextPublications.{AllFollow}
use Rattle.view.specs.ViewState.{ViewState, IsExact, after_publications}
use Rattle.view.specs.laws.Exact.{only_grows}
use Rattle.view.proofs.Turns.{publishes_next}
use Rattle.view.proofs.publishers.publish.Goals as goal

pub publish_as-writer-requires : goal.publish_as-writer-requires
publish_as-writer-requires g c next is =
    let e = c.in_default.ensures in
    let here = ap (λ d. d.shown.value) e.desk in
    let all : List Publication = drop c.args.writer.behind c.args.writer.log.items ++ c.args.publication ∷ [] in
    publishes_next _ _ _ _ next all (drop c.append.new.self.behind c.append.new.self.log.items) is e.pending
    (subst IsExact (sym here) c.requires.exact)
    (subst (λ (x : ViewState). AllFollow x all) (sym here) c.requires.follows)

same_grows : (x y : ViewState) → y ≡ x → IsPrefix x.journal y.journal
same_grows x y is = subst (λ (z : ViewState). IsPrefix x.journal z.journal) (sym is) ([], append-nil x.journal)

pub returns-in-Err-clause-grows : goal.returns-in-Err-clause-grows
returns-in-Err-clause-grows g c =
    same_grows c.args.writer.desk.shown.value c.append.new.self.desk.shown.value (ap (λ d. d.shown.value) c.in-Err.ensures.desk)

pub returns-in-Ok-clause-grows : goal.returns-in-Ok-clause-grows
returns-in-Ok-clause-grows g c =
    let was : ViewState = c.args.writer.desk.shown.value in
    let all : List Publication = drop c.args.writer.behind c.args.writer.log.items ++ c.args.publication ∷ [] in
    let same : c.publish_as-writer.result.0.desk.shown.value ≡ after_publications was all = search rules in
    subst (λ (x : ViewState). IsPrefix was.journal x.journal) (sym same) (only_grows was all c.requires.exact c.requires.follows)

pub returns-in-Err-shown-clause-grows : goal.returns-in-Err-shown-clause-grows
returns-in-Err-shown-clause-grows g c =
    let same : c.publish_as-writer.result.0.desk.shown.value ≡ c.args.writer.desk.shown.value = search rules in
    same_grows c.args.writer.desk.shown.value c.publish_as-writer.result.0.desk.shown.value same
