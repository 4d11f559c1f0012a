use Rattle.std.proofs.Common.{◌≡◌, reverse, refl, sym, ap, subst, ◌∙◌}
use Rattle.std.specs.Map.{keys_of}
use Rattle.std.proofs.lemmas.Map.Keys.{IsDistinct-from_sorted}
use Rattle.coins.specs.Coins.{Coins, outpoint_cmp}
use Rattle.coins.specs.Changes.{Changes, after_changes}
use Rattle.coins.specs.Entries.{named}
use Rattle.coins.specs.inside.Changes.{Undoes, comers, goers}
use Rattle.coins.proofs.Layers.{on_not_err}
use Rattle.coins.proofs.Rooms.{laid_in_two}
use Rattle.coins.proofs.coin_map.CoinMap.lay.Goals as goal

pub put_back-requires : goal.put_back-requires
put_back-requires c =
    let m = c.args.self.now in
    (m, c.bring_all.ensures.noted m (subst (λ (xs : Changes). Undoes m m (reverse xs)) (sym c.new-before.ensures.items) refl))

pub returns-then-is_err-clause-err : goal.returns-then-is_err-clause-err
returns-then-is_err-clause-err c =
    let m = c.args.self.now in
    c.put_back.ensures m (c.bring_all.ensures.noted m (subst (λ (xs : Changes). Undoes m m (reverse xs)) (sym c.new-before.ensures.items) refl))

pub returns-clause-ok : goal.returns-clause-ok
returns-clause-ok c =
    let m = c.args.self.now in
    let cs : Changes = named c.entries-2.result.now.entries in
    let same_list : named c.entries.result.now.entries ≡ cs = c.entries.ensures.named ∙ sym c.entries-2.ensures.named in
    c.take_away.ensures
    ∙ ap (λ (n : Coins). after_changes n (goers cs)) (on_not_err c.bring_all.result (sym c.is_err.ensures.value ∙ c.if-is_err.false) c.bring_all.ensures.ok ∙ ap (λ (xs : Changes). after_changes m (comers xs)) same_list)
    ∙ laid_in_two m cs (IsDistinct-from_sorted outpoint_cmp (keys_of cs) c.entries-2.ensures.in_order)
    ∙ ap (after_changes m) c.entries-2.ensures.named
