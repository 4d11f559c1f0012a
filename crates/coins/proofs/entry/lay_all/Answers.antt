use Rattle.std.proofs.Common.{◌≡◌, ◌∷◌, subst, sym, ap, ◌∙◌}
use Rattle.std.specs.Map.{keys_of}
use Rattle.std.specs.List.{IsDistinct}
use Rattle.std.proofs.lemmas.Map.Iter.{rest_more}
use Rattle.std.proofs.lemmas.Map.Keys.{IsDistinct-from_sorted}
use Rattle.txn.specs.declared.outpoint.OutPoint.{OutPoint}
use Rattle.coins.specs.declared.entry.CacheEntry.{CacheEntry}
use Rattle.coins.specs.Coins.{same, outpoint_cmp}
use Rattle.coins.specs.Entries.{Entries, entry_at}
use Rattle.coins.specs.inside.Entries.{HasRoom, merge_entry_at}
use Rattle.coins.proofs.LayersMerge.{lay_room, lay_rest, lay_step}
use Rattle.coins.proofs.entry.lay_all.Goals as goal

pub loop-at-init : goal.loop-at-init
loop-at-init c =
    let gives = c.into_iter-at-iterator.ensures.into_iter_gives in
    let es = c.args.entries.now.entries in
    record {
      room = subst (λ (ws : Entries). HasRoom es ws) (sym gives.0) c.requires;
      distinct = subst (λ (ws : Entries). IsDistinct same (keys_of ws)) (sym gives.0) (IsDistinct-from_sorted outpoint_cmp _ gives.5);
      same = λ q. ap (λ (ws : Entries). merge_entry_at (entry_at es q) (entry_at ws q)) gives.0;
    }

pub loop-at-preserved : goal.loop-at-preserved
loop-at-preserved c =
    let es = c.loop-at.entries.entries in
    let fs = c.lay_one.new.entries.entries in
    let ws = c.next.new.self in
    let k = c.in-Some.at in
    let e = c.in-Some.entry in
    let more : ◌≡◌ {A = Entries} c.loop-at.at-iterator ((k, e) ∷ ws) = rest_more (λ (x : OutPoint × CacheEntry). x) _ _ c.next.result (k, e) c.in-Some.is c.next.ensures.steps in
    let distinct : IsDistinct same (keys_of ((k, e) ∷ ws)) = subst (λ (xs : Entries). IsDistinct same (keys_of xs)) more c.loop-at.invariant.distinct in
    record {
      room = lay_room es fs ws k e _ c.lay_one.ensures distinct (subst (λ (xs : Entries). HasRoom es xs) more c.loop-at.invariant.room);
      distinct = lay_rest ws k e distinct;
      same = λ q. lay_step es fs ws k e q c.lay_one.ensures distinct ∙ sym (ap (λ (xs : Entries). merge_entry_at (entry_at es q) (entry_at xs q)) more) ∙ c.loop-at.invariant.same q;
    }

pub lay_one-requires : goal.lay_one-requires
lay_one-requires c =
    let more : ◌≡◌ {A = Entries} c.loop-at.at-iterator ((c.in-Some.at, c.in-Some.entry) ∷ c.next.new.self) = rest_more (λ (x : OutPoint × CacheEntry). x) _ _ c.next.result (c.in-Some.at, c.in-Some.entry) c.in-Some.is c.next.ensures.steps in
    let room : HasRoom c.loop-at.entries.entries ((c.in-Some.at, c.in-Some.entry) ∷ c.next.new.self) = subst (λ (xs : Entries). HasRoom c.loop-at.entries.entries xs) more c.loop-at.invariant.room in
    room.all.0
