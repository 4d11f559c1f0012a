use Rattle.std.proofs.Common.{arith, refl}
use Rattle.std.proofs.lemmas.Grind.{common_steps}
use Rattle.txn.specs.Limits.{IsWitnessWithin}
use Rattle.txn.specs.WitnessGrammar.{witness}
use Rattle.wire.specs.laws.Extension.{extends-append, extends-trans}
use Rattle.txn.proofs.Lawful.{one_more_within, all_within}
use Rattle.txn.proofs.witness_encode.put_witnesses.Goals as goal

pub returns-in_err-put_witness-clause-extends : goal.returns-in_err-put_witness-clause-extends
returns-in_err-put_witness-clause-extends c = extends-trans _ _ _ (extends-append _ _ _ c.loop-strings.invariant.written) c.put_witness.ensures.extends

pub loop-strings-preserved : goal.loop-strings-preserved
loop-strings-preserved c = record {
  written = grind (arith, common_steps);
  lawful = one_more_within witness IsWitnessWithin c.args.witnesses.now c.loop-strings.strings-index c.strings-item.result c.loop-strings-test.true c.strings-item.is c.loop-strings.invariant.lawful c.in_ok-put_witness.ensures.lawful;
}

pub returns-clause-lawful : goal.returns-clause-lawful
returns-clause-lawful c = all_within witness IsWitnessWithin c.args.witnesses.now c.args.witnesses.now c.loop-strings.strings-index c.loop-strings-test.false refl c.loop-strings.invariant.lawful
