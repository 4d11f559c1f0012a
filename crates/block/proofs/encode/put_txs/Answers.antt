use Rattle.std.proofs.Common.{arith, sym}
use Rattle.std.proofs.lemmas.Grind.{common_steps}
use Rattle.wire.specs.laws.Extension.{extends-append, extends-either, extends-trans}
use Rattle.block.proofs.Lawful.{one_more, all_lawful}
use Rattle.block.proofs.encode.put_txs.Goals as goal

pub returns-in_err-write_by-clause-extends : goal.returns-in_err-write_by-clause-extends
returns-in_err-write_by-clause-extends c = extends-trans _ _ _ (extends-append _ _ _ c.loop-tx.invariant.written) (extends-either _ _ _ c.write_by.result c.write_by.ensures.written c.write_by.ensures.kept)

pub loop-tx-preserved : goal.loop-tx-preserved
loop-tx-preserved c = record {
  written = grind (arith, common_steps);
  lawful = one_more c.args.has_flag c.as_slice-tx-items.result.now c.loop-tx.tx-index c.tx-item.result c.loop-tx-test.true c.tx-item.is c.loop-tx.invariant.lawful c.in_ok-write_by.ensures.lawful;
}

pub returns-clause-lawful : goal.returns-clause-lawful
returns-clause-lawful c = all_lawful c.args.has_flag c.args.txs.now c.as_slice-tx-items.result.now c.loop-tx.tx-index c.loop-tx-test.false (sym c.as_slice-tx-items.ensures) c.loop-tx.invariant.lawful
