use Rattle.std.proofs.Common.{◌≡◌, ◌++◌, arith, ap, ◌∙◌}
use Rattle.txn.specs.Grammar.{transaction}
use Rattle.txn.proofs.Marks.{one_more}
use Rattle.txn.proofs.many_ids.spell_eight.Goals as goal

pub spelled-preserved : goal.spelled-preserved
spelled-preserved c =
    let tx = c.index-txs-k.result in
    let wrote : c.write.new.out.items ≡ c.spelled.bytes.items ++ transaction.spell tx = c.in_ok-write.ensures.written in
    one_more c.args.txs.now c.spelled.bytes.items c.write.new.out.items c.spelled.marks c.spelled.k c.len.result _ c.spelled.invariant (omega (arith, c.spelled-test.true)) (omega (arith, c.spelled-test.true, c.requires)) (omega (arith, c.len.ensures))
    (wrote ∙ ap (λ t. c.spelled.bytes.items ++ transaction.spell t) (c.index-txs-k.is))
