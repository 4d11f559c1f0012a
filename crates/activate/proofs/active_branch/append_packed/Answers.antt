use Rattle.std.proofs.Common.{◌≡◌, ◌+◌, List, [], ◌∷◌, ◌++◌, length, arith, refl, sym, ap, ◌∙◌}
use Rattle.std.proofs.lemmas.List.{append-nil, append_assoc, length-append}
use Rattle.std.specs.Vec.Iter.{into_iter_items}
use Rattle.coins.specs.declared.coin.Coin.{Coin}
use Rattle.activate.proofs.active_branch.append_packed.Goals as goal

abbrev Undos : Type 0
Undos = List (List (List Coin))

pub loop-undo-init : goal.loop-undo-init
loop-undo-init c =
    let gives = c.into_iter-undo-iterator.ensures.into_iter_gives in
    record {
      count = gives.1 ∙ c.args.more.ok.0 ∙ sym (ap (λ (xs : Undos). length xs) gives.0);
      kept = ap (λ (xs : Undos). c.args.kept.now.items ++ xs) gives.0;
      room = refl;
    }

pub push_reserved-requires : goal.push_reserved-requires
push_reserved-requires c =
    let k = c.loop-undo.kept.items in
    let x = c.in-Some.undo in
    let rest = into_iter_items c.next.new.self in
    let more : ◌≡◌ {A = Undos} (into_iter_items c.loop-undo.undo-iterator) (x ∷ rest) = c.in-Some.ensures.steps.0 in
    let all : ◌≡◌ {A = Undos} (k ++ x ∷ rest) (c.args.kept.now.items ++ c.args.more.items) = sym (ap (λ (l : Undos). k ++ l) more) ∙ c.loop-undo.invariant.kept in
    let size = ap (λ (l : Undos). length l) all in
    let one = length-append k (x ∷ rest) in
    let two = length-append c.args.kept.now.items c.args.more.items in
    omega (arith, c.requires, c.loop-undo.invariant.room, c.loop-undo.kept.ok.0)

pub loop-undo-preserved : goal.loop-undo-preserved
loop-undo-preserved c =
    let k = c.loop-undo.kept.items in
    let x = c.in-Some.undo in
    let rest = into_iter_items c.next.new.self in
    let more : ◌≡◌ {A = Undos} (into_iter_items c.loop-undo.undo-iterator) (x ∷ rest) = c.in-Some.ensures.steps.0 in
    record {
      count = omega (arith, c.in-Some.ensures.steps.1, c.loop-undo.invariant.count, ap (λ (xs : Undos). length xs) more);
      kept = ap (λ (l : Undos). l ++ rest) c.push_reserved.ensures.items ∙ append_assoc k (x ∷ []) rest ∙ sym (ap (λ (xs : Undos). k ++ xs) more) ∙ c.loop-undo.invariant.kept;
      room = c.push_reserved.ensures.capacity ∙ c.loop-undo.invariant.room;
    }

nothing : (l : Undos) → length l ≡ 0 → l ≡ []
nothing [] e = refl
nothing (x ∷ l) e = absurd (omega arith)

pub returns-clause-kept : goal.returns-clause-kept
returns-clause-kept c =
    let none = nothing (into_iter_items c.loop-undo.undo-iterator) (sym c.loop-undo.invariant.count ∙ c.in-None.ensures.steps.0) in
    sym (append-nil c.loop-undo.kept.items) ∙ sym (ap (λ (l : Undos). c.loop-undo.kept.items ++ l) none) ∙ c.loop-undo.invariant.kept

pub returns-clause-room : goal.returns-clause-room
returns-clause-room c = c.loop-undo.invariant.room
