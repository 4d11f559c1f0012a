use Rattle.std.proofs.Common.{◌≡◌, List, [], ◌∷◌, ◌++◌, ◌-◌, length, arith, refl, sym, ap, ◌∙◌}
use Rattle.std.proofs.lemmas.List.{append-nil, length-append}
use Rattle.std.specs.Vec.Iter.{into_iter_items}
use Rattle.coins.specs.declared.coin.Coin.{Coin}
use Rattle.activate.specs.inside.ActiveBranch.{last_of}
use Rattle.activate.specs.CoreState.{most_undo}
use Rattle.activate.proofs.Trails.{newest-all, newest-long, newest-more}
use Rattle.activate.proofs.active_branch.keep_undo.Goals as goal

abbrev Undos : Type 0
Undos = List (List (List Coin))

pub loop-undo-init : goal.loop-undo-init
loop-undo-init c =
    let gives = c.into_iter-undo-iterator.ensures.into_iter_gives in
    record {
      count = gives.1 ∙ c.args.more.ok.0 ∙ sym (ap (λ (xs : Undos). length xs) gives.0);
      kept = ap (λ (xs : Undos). last_of most_undo (c.args.kept.now.items ++ xs)) gives.0;
      few = c.requires.few;
      room = refl;
    }

pub push_back_reserved-requires : goal.push_back_reserved-requires
push_back_reserved-requires c =
    let few = ap (λ (xs : Undos). length xs) c.drop_oldest.ensures.kept in
    let less = newest-long (most_undo - 1) c.loop-undo.kept.items in
    let a = c.drop_oldest.ensures.room in
    let b = c.loop-undo.invariant.room in
    let d = c.requires.room in
    let e = c.drop_oldest.new.kept.ok in
    omega arith

pub loop-undo-preserved : goal.loop-undo-preserved
loop-undo-preserved c =
    let k = c.loop-undo.kept.items in
    let x = c.in-Some.undo in
    let rest = into_iter_items c.next.new.self in
    let more : ◌≡◌ {A = Undos} (into_iter_items c.loop-undo.undo-iterator) (x ∷ rest) = c.in-Some.ensures.steps.0 in
    let new : ◌≡◌ {A = Undos} c.push_back_reserved.new.self.items (last_of (most_undo - 1) k ++ (x ∷ [])) = c.push_back_reserved.ensures.items ∙ ap (λ (l : Undos). l ++ (x ∷ [])) c.drop_oldest.ensures.kept in
    let size = ap (λ (l : Undos). length l) new ∙ length-append (last_of (most_undo - 1) k) (x ∷ []) in
    let less = newest-long (most_undo - 1) k in
    record {
      count = omega (arith, c.in-Some.ensures.steps.1, c.loop-undo.invariant.count, ap (λ (xs : Undos). length xs) more);
      kept = ap (λ (l : Undos). last_of most_undo (l ++ rest)) new ∙ newest-more most_undo k rest x (omega arith) ∙ sym (ap (λ (xs : Undos). last_of most_undo (k ++ xs)) more) ∙ c.loop-undo.invariant.kept;
      few = omega arith;
      room = c.push_back_reserved.ensures.capacity ∙ c.drop_oldest.ensures.room ∙ c.loop-undo.invariant.room;
    }

nothing : (l : Undos) → length l ≡ 0 → l ≡ []
nothing [] e = refl
nothing (x ∷ l) e = absurd (omega arith)

pub returns-clause-kept : goal.returns-clause-kept
returns-clause-kept c =
    let none = nothing (into_iter_items c.loop-undo.undo-iterator) (sym c.loop-undo.invariant.count ∙ c.in-None.ensures.steps.0) in
    sym (newest-all most_undo c.loop-undo.kept.items c.loop-undo.invariant.few)
    ∙ sym (ap (last_of most_undo) (append-nil c.loop-undo.kept.items))
    ∙ sym (ap (λ (l : Undos). last_of most_undo (c.loop-undo.kept.items ++ l)) none)
    ∙ c.loop-undo.invariant.kept

pub returns-clause-room : goal.returns-clause-room
returns-clause-room c = c.loop-undo.invariant.room
