use Rattle.std.proofs.Common.{List, sym, subst}
use Rattle.txn.specs.Tx.{Tx}
use Rattle.connect.specs.inside.AppliedTransactions.{IsBlockApplied}
use Rattle.connect.specs.laws.Application.{block_applied}
use Rattle.connect.proofs.disconnect_block.disconnect_in_layer.Goals as goal

pub revert_txs-requires-clause-applied : goal.revert_txs-requires-clause-applied
revert_txs-requires-clause-applied g c =
    let p = c.requires.connected in
    (p.0.height, p.1, subst (λ (l : List Tx). IsBlockApplied p.0.height p.1 l c.args.layer.coins c.args.undo.now) (sym c.as_slice.ensures) (block_applied p.0 p.1 c.args.block.now c.args.layer.coins c.args.undo.now p.2))

pub returns : goal.returns
returns g c = λ s m h.
    c.revert_txs.ensures s.height m (subst (λ (l : List Tx). IsBlockApplied s.height m l c.args.layer.coins c.args.undo.now) (sym c.as_slice.ensures) (block_applied s m c.args.block.now c.args.layer.coins c.args.undo.now h))
