use Rattle.std.proofs.Common.{rules, ◌≡◌, length, [], ◌∷◌, refl, ap, sym, subst, ◌∙◌, arith}
use Rattle.coins.specs.Coins.{Coins, Layer}
use Rattle.coins.specs.Entries.{Entries, over, IsSound}
use Rattle.coins.proofs.Layers.{always_err, over_none}
use Rattle.coins.proofs.LayersMerge.{padded_sound, padded_over, merged_over, merged_sound}
use Rattle.coins.proofs.cache.Cache.absorb.Goals as goal

pub invariant_of-self : goal.invariant_of-self
invariant_of-self g c =
    let m = g.B.Base.coins c.self.inside.base.now in
    let es = c.self.inside.entries.entries in
    let ws = c.writes.inside.entries.entries in
    let empty : length es ≡ 0 = search rules in
    let below : c.args.self.now.coins ≡ m = sym (ap (λ (l : Layer). l.coins) c.self.view_is) ∙ over_none m es empty in
    subst (λ (x : Coins). IsSound x ws) below (subst (λ (x : Entries). IsSound c.args.self.now.coins x) (sym c.writes.view_is) c.requires)

pub returns-then-is_empty-clause-ok : goal.returns-then-is_empty-clause-ok
returns-then-is_empty-clause-ok g c =
    let m = g.B.Base.coins c.self.inside.base.now in
    let es = c.self.inside.entries.entries in
    let ws = c.writes.inside.entries.entries in
    let empty : length es ≡ 0 = search rules in
    let below : m ≡ c.args.self.now.coins = sym (over_none m es empty) ∙ ap (λ (l : Layer). l.coins) c.self.view_is in
    let base : m ≡ c.args.self.now.base = ap (λ (l : Layer). l.base) c.self.view_is in
    λ i. record { base = base i; coins = over (below i) (c.writes.view_is i) }

pub returns-in_err-make_room-clause-err : goal.returns-in_err-make_room-clause-err
returns-in_err-make_room-clause-err g c =
    let m = g.B.Base.coins c.self.inside.base.now in
    let es = c.make_room.new.entries.entries in
    always_err c.from_residual.result (ap (λ (x : Coins). let y : Layer = record { base = m; coins = x } in y) (padded_over m c.self.inside.entries.entries es c.make_room.ensures.readied) ∙ c.self.view_is)

pub invariant_of-self-2 : goal.invariant_of-self-2
invariant_of-self-2 g c =
    let m = g.B.Base.coins c.self.inside.base.now in
    let es0 = c.self.inside.entries.entries in
    let es = c.make_room.new.entries.entries in
    let ws = c.writes.inside.entries.entries in
    let same : over m es ≡ c.args.self.now.coins = padded_over m es0 es c.make_room.ensures.readied ∙ ap (λ (l : Layer). l.coins) c.self.view_is in
    let sound : IsSound c.args.self.now.coins ws = subst (λ (x : Entries). IsSound c.args.self.now.coins x) (sym c.writes.view_is) c.requires in
    merged_sound m es ws _ (record { at = c.lay_all.ensures }) (padded_sound m es0 es c.make_room.ensures.readied c.self.invariant) (subst (λ (x : Coins). IsSound x ws) (sym same) sound)

pub returns-clause-ok : goal.returns-clause-ok
returns-clause-ok g c =
    let m = g.B.Base.coins c.self.inside.base.now in
    let es0 = c.self.inside.entries.entries in
    let es = c.make_room.new.entries.entries in
    let ws = c.writes.inside.entries.entries in
    let sound = padded_sound m es0 es c.make_room.ensures.readied c.self.invariant in
    ap (λ (x : Coins). let y : Layer = record { base = m; coins = x } in y) (merged_over m es ws c.lay_all.new.entries.entries (record { at = c.lay_all.ensures }) sound ∙ ap (λ (x : Coins). over x ws) (padded_over m es0 es c.make_room.ensures.readied))
    ∙ ap (λ (l : Layer). let y : Layer = record { base = l.base; coins = over l.coins ws } in y) c.self.view_is
    ∙ ap (λ (x : Entries). let y : Layer = record { base = c.args.self.now.base; coins = over c.args.self.now.coins x } in y) c.writes.view_is
