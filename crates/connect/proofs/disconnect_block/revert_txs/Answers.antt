use Rattle.std.proofs.Common.{ap, ◌∙◌}
use Rattle.txn.specs.Identity.{id_of}
use Rattle.coins.specs.Coins.{Coins, Layer}
use Rattle.undo.specs.Effect.{after}
use Rattle.connect.proofs.Back.{others_back, first_back, if_ok}
use Rattle.connect.proofs.disconnect_block.revert_txs.Goals as goal

pub revert_all-requires-clause-applied : goal.revert_all-requires-clause-applied
revert_all-requires-clause-applied g c =
    let p = c.requires.applied in
    (p.0, after p.1 p.2.coinbase (id_of p.2.coinbase) p.0, others_back p.0 p.1 c.args.txs.now c.args.layer.coins c.args.undo.now c.as_slice.result.now p.2 c.as_slice.ensures)

pub revert_in_layer-requires : goal.revert_in_layer-requires
revert_in_layer-requires g c =
    let p = c.requires.applied in
    let m = after p.1 p.2.coinbase (id_of p.2.coinbase) p.0 in
    let left = ap (λ (l : Layer). l.coins) (c.in_ok-layer.ensures p.0 m (others_back p.0 p.1 c.args.txs.now c.args.layer.coins c.args.undo.now c.as_slice.result.now p.2 c.as_slice.ensures)) in
    (p.1, p.0, first_back p.0 p.1 c.args.txs.now c.args.layer.coins c.args.undo.now p.2 c.args.ids.now c.requires.ids c.index-txs-0.result _ c.in_ok-layer.layer.coins c.new.result c.index-txs-0.is left c.new.ensures)

pub returns : goal.returns
returns g c = λ h m b.
    let n = after m b.coinbase (id_of b.coinbase) h in
    let all = c.in_ok-layer.ensures h n (others_back h m c.args.txs.now c.args.layer.coins c.args.undo.now c.as_slice.result.now b c.as_slice.ensures) in
    let one = first_back h m c.args.txs.now c.args.layer.coins c.args.undo.now b c.args.ids.now c.requires.ids c.index-txs-0.result _ c.in_ok-layer.layer.coins c.new.result c.index-txs-0.is (ap (λ (l : Layer). l.coins) all) c.new.ensures in
    if_ok c.revert_in_layer-2.result (c.revert_in_layer-2.ensures m h one)
    (λ left e. e ∙ ap (λ (x : Coins). let y : Layer = record { base = x; coins = m } in y) (ap (λ (l : Layer). l.base) all))
