use Rattle.std.proofs.Common.{rules, ◌≡◌, ℕ, List, None, sym, ap, ◌∙◌, subst}
use Rattle.std.specs.Int.{w128}
use Rattle.std.proofs.lemmas.Int.{to_z-of_z}
use Rattle.hash.specs.declared.id.Id.{Id}
use Rattle.txn.specs.Tx.{Tx}
use Rattle.txn.specs.First.{first_broken}
use Rattle.txn.specs.Identity.{id_of}
use Rattle.coins.specs.declared.coin.Coin.{Coin}
use Rattle.coins.specs.Coins.{Coins, Layer}
use Rattle.undo.specs.Effect.{IsApplicable, after}
use Rattle.connect.specs.BlockContext.{Setting, setting}
use Rattle.connect.specs.Turns.{turn}
use Rattle.connect.specs.Faults.{turn_rules}
use Rattle.connect.specs.inside.Turns.{HasFound, IsLawful}
use Rattle.connect.specs.laws.Application.{applies}
use Rattle.connect.specs.laws.Broken.{IsClear, at_clash, none_broken}
use Rattle.connect.proofs.turn.connect_tx.Goals as goal

-- the coins that were found, as the slice of them that is lent
of_slice : (s : Setting) (tx : Tx) (m : Coins) (n : ℕ) (slice coins : List Coin) → slice ≡ coins → HasFound s tx m n coins → HasFound s tx m n slice
of_slice s tx m n slice coins same found = subst (λ (l : List Coin). HasFound s tx m n l) (sym same) found

-- a transaction that breaks no rule in its turn, and can be applied under its id
record Passing (s : Setting) (tx : Tx) (m : Coins) (n : ℕ) (id : Id) : Type 0 where
  none : first_broken (turn_rules s (turn tx m n)) ≡ None
  can : IsApplicable m tx id

passing : (s : Setting) (tx : Tx) (m : Coins) (n : ℕ) (id : Id) → id ≡ id_of tx → IsLawful tx → IsClear s (turn tx m n) → Passing s tx m n id
passing s tx m n id is lawful up =
    let none = none_broken s (turn tx m n) up in
    record { none = none; can = subst (λ (i : Id). IsApplicable m tx i) (sym is) (applies s (turn tx m n) lawful none) }

pub returns-in_err-layer-clause-fault : goal.returns-in_err-layer-clause-fault
returns-in_err-layer-clause-fault g c = let h = c.in_err-layer.ensures.fault (setting c.args.place.now.context.now) in search rules

pub returns-in-Err-clause-fault : goal.returns-in-Err-clause-fault
returns-in-Err-clause-fault g c =
    let s = setting c.args.place.now.context.now in
    let found = of_slice s c.args.tx.now c.args.layer.coins c.args.counted _ _ c.as_slice-coins.ensures (c.in_ok-layer.ensures.found s) in
    c.in-Err.ensures.fault c.args.layer.coins c.args.counted found

pub returns-in_err-counted-clause-fault : goal.returns-in_err-counted-clause-fault
returns-in_err-counted-clause-fault g c =
    let s = setting c.args.place.now.context.now in
    let m = c.args.layer.coins in
    let n = c.args.counted in
    let found = of_slice s c.args.tx.now m n _ _ c.as_slice-coins.ensures (c.in_ok-layer.ensures.found s) in
    let h = c.in_err-counted.ensures.fault m n found (c.in-Ok.ensures.enough m n found) c.in_ok-layer.ensures.plain in
    search rules

pub returns-then-overwriting-clause-fault : goal.returns-then-overwriting-clause-fault
returns-then-overwriting-clause-fault g c =
    let s = setting c.args.place.now.context.now in
    let m = c.args.layer.coins in
    let n = c.args.counted in
    let found = of_slice s c.args.tx.now m n _ _ c.as_slice-coins.ensures (c.in_ok-layer.ensures.found s) in
    at_clash s (turn c.args.tx.now m n) (c.in_ok-counted.ensures.count m n found (c.in-Ok.ensures.enough m n found) c.in_ok-layer.ensures.plain)
    (sym c.overwrites_in_turn-overwriting.ensures ∙ c.if-overwriting.true)

pub add_outputs-requires : goal.add_outputs-requires
add_outputs-requires g c =
    let s = setting c.args.place.now.context.now in
    let m = c.args.layer.coins in
    let n = c.args.counted in
    let found = of_slice s c.args.tx.now m n _ _ c.as_slice-coins.ensures (c.in_ok-layer.ensures.found s) in
    let count = c.in_ok-counted.ensures.count m n found (c.in-Ok.ensures.enough m n found) c.in_ok-layer.ensures.plain in
    let p = passing s c.args.tx.now m n c.args.id c.requires.id c.requires.lawful (record { count = count; new = sym c.overwrites_in_turn-overwriting.ensures ∙ c.if-overwriting.false }) in
    (m, p.can, ap (λ (l : Layer). l.coins) c.in_ok-layer.ensures.layer)

pub returns-clause-passes : goal.returns-clause-passes
returns-clause-passes g c =
    let s = setting c.args.place.now.context.now in
    let m = c.args.layer.coins in
    let n = c.args.counted in
    let found = of_slice s c.args.tx.now m n _ _ c.as_slice-coins.ensures (c.in_ok-layer.ensures.found s) in
    let count = c.in_ok-counted.ensures.count m n found (c.in-Ok.ensures.enough m n found) c.in_ok-layer.ensures.plain in
    let p = passing s c.args.tx.now m n c.args.id c.requires.id c.requires.lawful (record { count = count; new = sym c.overwrites_in_turn-overwriting.ensures ∙ c.if-overwriting.false }) in
    record {
      none = p.none;
      layer = c.in_ok-layer-2.ensures m p.can (ap (λ (l : Layer). l.coins) c.in_ok-layer.ensures.layer)
          ∙ (λ i. record { base = (c.in_ok-layer.ensures.layer i).base; coins = after m c.args.tx.now (c.requires.id i) c.args.place.now.context.now.height });
      spent = (c.in_ok-layer.ensures.found s).lent;
      fee = to_z-of_z w128 c.in-Ok.fee (search rules) ∙ c.in-Ok.ensures.fee m n found;
      low = search rules;
      high = search rules;
      counted = c.in_ok-counted.ensures.counted m n found c.in_ok-layer.ensures.plain;
      few = c.in_ok-counted.ensures.bounded;
    }
