use Rattle.std.proofs.Common.{arith, sym}
use Rattle.std.proofs.lemmas.Grind.{common_steps}
use Rattle.wire.specs.laws.Extension.{extends-append, extends-trans}
use Rattle.txn.specs.Grammar.{input}
use Rattle.txn.proofs.Lawful.{one_more, all_lawful}
use Rattle.txn.proofs.encode.put_inputs.Goals as goal

pub returns-in_err-put_tx_in-clause-extends : goal.returns-in_err-put_tx_in-clause-extends
returns-in_err-put_tx_in-clause-extends c = extends-trans _ _ _ (extends-append _ _ _ c.loop-i.invariant.written) c.put_tx_in.ensures.extends

pub loop-i-preserved : goal.loop-i-preserved
loop-i-preserved c = record {
  written = grind (arith, common_steps);
  lawful = one_more input (λ x. x.script) c.as_slice-i-items.result.now c.loop-i.i-index c.i-item.result c.loop-i-test.true c.i-item.is c.loop-i.invariant.lawful c.in_ok-put_tx_in.ensures.lawful;
}

pub returns-clause-lawful : goal.returns-clause-lawful
returns-clause-lawful c = all_lawful input (λ x. x.script) c.args.inputs.now c.as_slice-i-items.result.now c.loop-i.i-index c.loop-i-test.false (sym c.as_slice-i-items.ensures) c.loop-i.invariant.lawful
