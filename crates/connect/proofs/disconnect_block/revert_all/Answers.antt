use Rattle.std.proofs.Common.{◌≡◌, ℕ, ◌+◌, ◌-◌, length, take, ap, ◌∙◌, arith}
use Rattle.coins.specs.Coins.{Coins, Layer}
use Rattle.connect.specs.Turns.{effect}
use Rattle.connect.specs.laws.Turns.{effect_none}
use Rattle.connect.specs.inside.AppliedTransactions.{AreApplied}
use Rattle.connect.proofs.Back.{one_each, back_at}
use Rattle.connect.proofs.disconnect_block.revert_all.Goals as goal

pub bounds-undo-index : goal.bounds-undo-index
bounds-undo-index g c =
    let p = c.requires.applied in
    omega (arith, one_each p.0 p.1 c.args.txs.now c.args.layer.coins c.args.undo.now p.2)

pub revert_in_layer-requires : goal.revert_in_layer-requires
revert_in_layer-requires g c =
    let p = c.requires.applied in
    let txs = c.args.txs.now in
    let i = length txs - 1 - c.loop-done.done in (
      effect p.0 p.1 (take i txs),
      p.0,
      back_at p.0 p.1 txs c.args.layer.coins c.args.undo.now p.2 c.args.ids.now c.requires.ids i (length txs - c.loop-done.done)
          c.index-txs-index.result c.index-undo-index.result _ c.loop-done.layer.coins (omega arith) (omega arith) c.index-txs-index.is c.index-undo-index.is (c.loop-done.invariant.back p.0 p.1 p.2),
    )

pub loop-done-preserved : goal.loop-done-preserved
loop-done-preserved g c =
    let txs = c.args.txs.now in
    let i = length txs - 1 - c.loop-done.done in
    let next : i ≡ length txs - (c.loop-done.done + 1) = omega arith in
    let left : (h : ℕ) (m : Coins) → AreApplied h m txs c.args.layer.coins c.args.undo.now → ◌≡◌ {A = Layer} c.in_ok-layer.layer (record c.loop-done.layer { coins = effect h m (take i txs) }) =
    λ h m a. c.in_ok-layer.ensures (effect h m (take i txs)) h
    (back_at h m txs c.args.layer.coins c.args.undo.now a c.args.ids.now c.requires.ids i (length txs - c.loop-done.done)
    c.index-txs-index.result c.index-undo-index.result _ c.loop-done.layer.coins (omega arith) (omega arith) c.index-txs-index.is c.index-undo-index.is (c.loop-done.invariant.back h m a)) in
    let p = c.requires.applied in
    record {
      base = ap (λ (l : Layer). l.base) (left p.0 p.1 p.2) ∙ c.loop-done.invariant.base;
      back = λ h m a. ap (λ (l : Layer). l.coins) (left h m a) ∙ ap (λ j. effect h m (take j txs)) next;
    }

pub returns : goal.returns
returns g c = λ h m a.
    let txs = c.args.txs.now in
    let none : length txs - c.loop-done.done ≡ 0 = omega arith in
    let base = c.loop-done.invariant.base in
    let coins = c.loop-done.invariant.back h m a ∙ ap (λ j. effect h m (take j txs)) none ∙ effect_none h m in
    λ i. record { base = base i; coins = coins i }
