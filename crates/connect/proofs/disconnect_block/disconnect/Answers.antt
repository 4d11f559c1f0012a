use Rattle.std.proofs.Common.{List, sym, ap, subst, ◌∙◌}
use Rattle.txn.specs.Tx.{Tx}
use Rattle.coins.specs.Coins.{Coins, Layer}
use Rattle.connect.specs.inside.AppliedTransactions.{IsBlockApplied}
use Rattle.connect.specs.laws.Application.{block_applied}
use Rattle.connect.proofs.Back.{on_ok}
use Rattle.connect.proofs.disconnect_block.disconnect.Goals as goal

pub writes_back-requires-clause-applied : goal.writes_back-requires-clause-applied
writes_back-requires-clause-applied g c =
    let p = c.requires.connected in
    (p.0.height, p.1, subst (λ (l : List Tx). IsBlockApplied p.0.height p.1 l c.args.cache.now.coins c.args.undo.now) (sym c.as_slice.ensures) (block_applied p.0 p.1 c.args.block.now c.args.cache.now.coins c.args.undo.now p.2))

pub returns-clause-ok : goal.returns-clause-ok
returns-clause-ok g c = λ s m h.
    let applied = subst (λ (l : List Tx). IsBlockApplied s.height m l c.args.cache.now.coins c.args.undo.now) (sym c.as_slice.ensures) (block_applied s m c.args.block.now c.args.cache.now.coins c.args.undo.now h) in
    let back = c.in_ok-writes.ensures.over s.height m applied in
    on_ok c.absorb.result c.absorb.ensures.ok (λ e. e ∙ ap (λ (x : Coins). let y : Layer = record { base = c.args.cache.now.base; coins = x } in y) back)
