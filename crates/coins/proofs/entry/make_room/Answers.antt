use Rattle.std.proofs.Common.{◌≡◌, [], None, ◌∷◌, ◌++◌, sym, ap, ◌∙◌}
use Rattle.std.proofs.lemmas.List.{append_assoc}
use Rattle.coins.specs.declared.entry.CacheEntry.TheVariants.{Clean}
use Rattle.coins.specs.laws.Lookups.{same-self}
use Rattle.coins.specs.Entries.{Entries, entry_at}
use Rattle.coins.proofs.LayersMerge.{pad_same, pad_write, room_write, room_push, none_from, some_from}
use Rattle.coins.proofs.entry.make_room.Goals as goal

pub loop-at-init : goal.loop-at-init
loop-at-init c = (pad_same _, ([], c.into_iter-at-iterator.ensures.into_iter_gives.0, record { all = tt }))

pub loop-at-preserved-in-Continue-1 : goal.loop-at-preserved-in-Continue-1
loop-at-preserved-in-Continue-1 c =
    let es = c.loop-at.entries.entries in
    let fs = c.write.new.entries.entries in
    let k = c.in-Some.at.now in
    let v = c.in-Some.field-0-1.now in
    let xs = c.loop-at.invariant.1.0 in
    let more : ◌≡◌ {A = Entries} c.loop-at.at-iterator ((k, v) ∷ c.next.new.self) = c.in-Some.ensures.steps in
    let none : entry_at es k ≡ None = none_from (entry_at es k) (sym c.contains_key.ensures ∙ c.if-not-contains_key.true) in
    let w = c.in_ok-write.ensures.ok in (
      pad_write _ es fs k c.loop-at.invariant.0 none w,
      (
        xs ++ (k, v) ∷ [],
        append_assoc xs ((k, v) ∷ []) c.next.new.self ∙ ap (λ (ws : Entries). xs ++ ws) (sym more) ∙ c.loop-at.invariant.1.1,
        room_write es fs xs k Clean v w (same-self k) c.loop-at.invariant.1.2,
      ),
    )

pub loop-at-preserved : goal.loop-at-preserved
loop-at-preserved c =
    let es = c.loop-at.entries.entries in
    let k = c.in-Some.at.now in
    let v = c.in-Some.field-0-1.now in
    let xs = c.loop-at.invariant.1.0 in
    let more : ◌≡◌ {A = Entries} c.loop-at.at-iterator ((k, v) ∷ c.next.new.self) = c.in-Some.ensures.steps in (
      c.loop-at.invariant.0,
      (
        xs ++ (k, v) ∷ [],
        append_assoc xs ((k, v) ∷ []) c.next.new.self ∙ ap (λ (ws : Entries). xs ++ ws) (sym more) ∙ c.loop-at.invariant.1.1,
        room_push es xs k v (some_from (entry_at es k) (sym c.contains_key.ensures ∙ c.if-not-contains_key.false)) c.loop-at.invariant.1.2,
      ),
    )
