-- The steps of readers and of the writer keep the rule of what is published.
use Rattle.std.proofs.Common.{◌≡◌, ℕ, List, set, sym, ap, ◌∙◌, subst}
use Rattle.crossbeam_utils.specs.Register.{Admits, TurnsAt, Turns}
use Rattle.view.specs.Origin.{Origin}
use Rattle.view.specs.ViewState.{ViewState, IsExact, after_publications}
use Rattle.view.specs.declared.publication.Publication.{Publication}
use Rattle.view.specs.NextPublications.{AllFollow}
use Rattle.view.specs.laws.Exact.{all_exact, same_origin}
use Rattle.view.specs.Rule.{IsExactOf}

-- what each step tells of the view that it leaves published
abbrev pub Leaves : Origin → Unit {0} → ViewState → ViewState → Unit {0} → Type 0
Leaves o v before after w = IsExactOf o after

abbrev pub Keeps : Origin → ViewState → List (Unit {0}) → Type 0
Keeps o x all = IsExactOf o x

pub admits : (o : Origin) → Admits (Keeps o) tt
admits o x views h = h

pub sees : (o : Origin) (seat : ℕ) (v : Unit {0}) → Turns (Keeps o) seat v (λ x. x) (Leaves o)
sees o seat v x views h at = (v, h, h)

-- what is published next follows what was
pub publishes_next : (o : Origin) (seat : ℕ) (v : Unit {0}) (x next : ViewState) (all pending : List Publication) → next ≡ after_publications x pending → pending ≡ all → IsExact x → AllFollow x all → TurnsAt (Keeps o) seat v x next (Leaves o)
publishes_next o seat v x next all pending is same exact follow views h at =
    let last : next ≡ after_publications x all = is ∙ ap (after_publications x) same in
    let origin : next.origin ≡ o = ap (λ (n : ViewState). n.origin) last ∙ same_origin x all follow ∙ h.1 in
    let good : IsExact next = subst IsExact (sym last) (all_exact x all exact follow) in
    (v, (good, origin), (good, origin))
