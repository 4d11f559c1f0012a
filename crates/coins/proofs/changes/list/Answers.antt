use Rattle.std.proofs.Common.{◌≡◌, [], ◌∷◌, ◌++◌, Option, sym, ap, ◌∙◌}
use Rattle.std.proofs.lemmas.List.{append_assoc}
use Rattle.coins.specs.Coins.{Coin}
use Rattle.coins.specs.Entries.{Entries, named}
use Rattle.coins.specs.Changes.{Changes}
use Rattle.coins.proofs.EntryNames.{named_one, all_of}
use Rattle.coins.proofs.changes.list.Goals as goal

pub loop-at-init : goal.loop-at-init
loop-at-init c = ([], c.into_iter-at-iterator.ensures.into_iter_gives.0, c.in_ok-list.ensures.items)

pub loop-at-preserved : goal.loop-at-preserved
loop-at-preserved c =
    let es = c.loop-at.invariant.0 in
    let k = c.in-Some.at.now in
    let e = c.in-Some.entry.now in
    let more : ◌≡◌ {A = Entries} c.loop-at.at-iterator ((k, e) ∷ c.next.new.self) = c.in-Some.ensures.steps in (
      es ++ (k, e) ∷ [],
      append_assoc es ((k, e) ∷ []) c.next.new.self ∙ ap (λ (xs : Entries). es ++ xs) (sym more) ∙ c.loop-at.invariant.1,
      c.in_ok-push.ensures.items
          ∙ ap (λ (cs : Changes). cs ++ (k, c.in_ok-own_coin.field-0) ∷ []) c.loop-at.invariant.2
          ∙ ap (λ (w : Option Coin). named es ++ (k, w) ∷ []) c.in_ok-own_coin.ensures
          ∙ sym (named_one es k e),
    )

pub returns : goal.returns
returns c =
    let none : ◌≡◌ {A = Entries} c.loop-at.at-iterator [] = c.in-None.ensures.steps.0 in
    let es = c.loop-at.invariant.0 in
    c.loop-at.invariant.2 ∙ ap named (all_of es c.loop-at.at-iterator _ c.loop-at.invariant.1 none)
