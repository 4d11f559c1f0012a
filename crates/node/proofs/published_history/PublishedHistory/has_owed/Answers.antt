use Rattle.std.proofs.Common.{◌≡◌, ◌≤◌, ◌-◌, ℕ, true, List, [], ◌∷◌, length, take, drop, map, Some, refl, ap, sym, ◌∙◌, subst, arith}
use Rattle.std.proofs.lemmas.Bool.{eq-eqb, eqb-true}
use Rattle.std.specs.Prelude.{slice_get}
use Rattle.model.specs.declared.command.Command.{Command}
use Rattle.model.specs.declared.entry.Entry.{Entry}
use Rattle.model.specs.History.{own_of}
use Rattle.node.specs.Pass.{owed_entry}
use Rattle.node.specs.inside.LastPlaces.{IsLastPlace}
use Rattle.node.specs.inside.PublishedState.{PublishedState}
use Rattle.node.proofs.Lasts.{none_behind, none_owed, up_to_last}
use Rattle.node.proofs.published_history.PublishedHistory.has_owed.Goals as goal

pub returns-then-to-from : goal.returns-then-to-from
returns-then-to-from g c =
    let n = c.args.token.now in
    let journal = c.args.self.now.journal in
    let same : c.self.inside.journal.items ≡ journal = ap (λ (h : PublishedState). h.journal) c.self.view_is in
    let last : IsLastPlace c.number-number.result c.of-to.result c.self.inside.journal.items = c.self.invariant.7.each c.number-number.result c.of-to.result c.of-to.ensures in
    let there : IsLastPlace n c.of-to.result journal = subst (λ (k : ℕ). IsLastPlace k c.of-to.result journal) c.number-number.ensures.is (subst (λ (l : List Entry). IsLastPlace c.number-number.result c.of-to.result l) same last) in
    let none : own_of n (drop c.args.place journal) ≡ [] = none_behind n c.args.place c.of-to.result journal c.if-to-from.true there.1 in (
      λ empty. none ∙ sym (none_owed n c.args.owed.now (eqb-true (length c.args.owed.now) 0 (sym c.is_empty.ensures ∙ empty))),
      λ equal. c.is_empty.ensures ∙ eq-eqb (length c.args.owed.now) 0 (nothing n c.args.owed.now (sym equal ∙ none)),
    )
  where
    nothing : (n : ℕ) (owed : List Command) → map (owed_entry n) owed ≡ [] → length owed ≡ 0
    nothing n [] h = refl
    nothing n (c ∷ cs) h = absurd (cc h)

pub slice_bounds-own_are-end : goal.slice_bounds-own_are-end
slice_bounds-own_are-end g c =
    let last : IsLastPlace c.number-number.result c.of-to.result c.self.inside.journal.items = c.self.invariant.7.each c.number-number.result c.of-to.result c.of-to.ensures in
    omega (arith, last.0, c.deref.ensures.value, c.if-to-from.false)

pub returns : goal.returns
returns g c =
    let n = c.args.token.now in
    let journal = c.args.self.now.journal in
    let same : c.self.inside.journal.items ≡ journal = ap (λ (h : PublishedState). h.journal) c.self.view_is in
    let last : IsLastPlace c.number-number.result c.of-to.result c.self.inside.journal.items = c.self.invariant.7.each c.number-number.result c.of-to.result c.of-to.ensures in
    let there : IsLastPlace n c.of-to.result journal = subst (λ (k : ℕ). IsLastPlace k c.of-to.result journal) c.number-number.ensures.is (subst (λ (l : List Entry). IsLastPlace c.number-number.result c.of-to.result l) same last) in
    let all : own_of n (drop c.args.place journal) ≡ own_of n (take (c.of-to.result - c.args.place) (drop c.args.place journal)) =
    up_to_last n c.args.place c.of-to.result journal (omega (arith, c.if-to-from.false)) there.1 in
    let part : own_of c.number-number.result (take (c.of-to.result - c.args.place) (drop c.args.place c.deref.result.now)) ≡ own_of n (drop c.args.place journal) =
    (λ i. own_of (c.number-number.ensures.is i) (take (c.of-to.result - c.args.place) (drop c.args.place ((c.deref.ensures.value ∙ same) i)))) ∙ sym all in
    let owed : map (owed_entry c.number-number.result) c.args.owed.now ≡ map (owed_entry n) c.args.owed.now = ap (λ (k : ℕ). map (owed_entry k) c.args.owed.now) c.number-number.ensures.is in (
      λ found. sym part ∙ c.own_are.ensures.0 found ∙ owed,
      λ equal. c.own_are.ensures.1 (part ∙ equal ∙ sym owed),
    )
