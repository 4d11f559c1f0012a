use Rattle.std.proofs.Common.{◌∙◌, arith}
use Rattle.txn.proofs.Marks.{eight_more}
use Rattle.txn.proofs.many_ids.put_ids_by_eights.Goals as goal

pub turns-preserved : goal.turns-preserved
turns-preserved c =
    c.in_ok-extend_from_slice.ensures.items
    ∙ eight_more c.args.txs.now c.args.ids.now.items c.turns.ids.items c.in_ok-ids_of_eight.field-0 c.turns.k _ c.turns.invariant (omega arith) c.in_ok-ids_of_eight.ensures
