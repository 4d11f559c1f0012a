use Rattle.std.proofs.Common.{◌≡◌, Result, Ok, IfOk, sym, ap, ◌∙◌, subst}
use Rattle.coins.specs.Coins.{Coins}
use Rattle.coins.specs.Changes.{AreChanges, after_changes}
use Rattle.model.specs.Regtest.{regtest}
use Rattle.model.specs.Valid.{branch_connects}
use Rattle.activate.specs.CoreState.{coins_after}
use Rattle.activate.specs.inside.Ascents.{top_of, IsTop}
use Rattle.activate.specs.laws.WalkUp.{top-above}
use Rattle.activate.proofs.WantsOfBlocks.{where_none}
use Rattle.activate.proofs.path.ActiveBranch.try_block.Goals as goal

ok_part : {T E : Type 0} (P : T → Type 0) (r : Result T E) (x : T) → r ≡ Ok x → IfOk r P → P x
ok_part P r x e h = subst (λ a. IfOk a P) e h

pub returns-in_ok-undo-in-None-clause-attempt : goal.returns-in_ok-undo-in-None-clause-attempt
returns-in_ok-undo-in-None-clause-attempt g c triples agrees =
    let b = c.args.self.now in
    let t = b.tree.now.blocks in
    let r = regtest b.params.now triples in
    let path = c.in_ok-path.path in
    let w = c.in_ok-path.ensures.path in
    let ascent = c.in-Ok.field-0.ascent in
    let changes = c.into_changes-changes.result in
    let top : IsTop r t path.fork path.up.items (g.B.Base.coins c.args.base.now) ascent.undo.items ascent.layer ascent.medians = where_none _ _ _ c.in-None.is (ok_part _ _ _ c.in-Ok.is c.in_ok-path.ensures.top) triples agrees in
    let e : top_of path.fork path.up.items ≡ c.args.place = ap (top_of path.fork) w.up ∙ top-above t path.fork c.args.place c.requires.place w.shared.there in
    let after : ascent.layer.coins ≡ coins_after t c.args.place = top.applied.left ∙ ap (coins_after t) e in
    let below : ascent.layer.base ≡ coins_after t b.active = top.applied.base_is ∙ c.requires.active.coins_are in
    record {
      path = w;
      good = ap (branch_connects r t) (sym e) ∙ top.good;
      undo = c.in_ok-undo-in-None.ensures ∙ top.spent;
      changes =
          subst (λ (x : Coins). AreChanges x (coins_after t c.args.place) changes) below
          (subst (λ (x : Coins). AreChanges ascent.layer.base x changes) after c.into_changes-changes.ensures.differences);
      laid = ap (λ (x : Coins). after_changes x changes) (sym below) ∙ c.into_changes-changes.ensures.laid ∙ after;
    }
