use Rattle.std.proofs.Common.{arith, sym}
use Rattle.std.proofs.lemmas.Grind.{common_steps}
use Rattle.wire.specs.laws.Extension.{extends-append, extends-trans}
use Rattle.txn.specs.Grammar.{output}
use Rattle.txn.proofs.Lawful.{one_more, all_lawful}
use Rattle.txn.proofs.encode.put_outputs.Goals as goal

pub returns-in_err-put_tx_out-clause-extends : goal.returns-in_err-put_tx_out-clause-extends
returns-in_err-put_tx_out-clause-extends c = extends-trans _ _ _ (extends-append _ _ _ c.loop-o.invariant.written) c.put_tx_out.ensures.extends

pub loop-o-preserved : goal.loop-o-preserved
loop-o-preserved c = record {
  written = grind (arith, common_steps);
  lawful = one_more output (λ x. x.script) c.as_slice-o-items.result.now c.loop-o.o-index c.o-item.result c.loop-o-test.true c.o-item.is c.loop-o.invariant.lawful c.in_ok-put_tx_out.ensures.lawful;
}

pub returns-clause-lawful : goal.returns-clause-lawful
returns-clause-lawful c = all_lawful output (λ x. x.script) c.args.outputs.now c.as_slice-o-items.result.now c.loop-o.o-index c.loop-o-test.false (sym c.as_slice-o-items.ensures) c.loop-o.invariant.lawful
