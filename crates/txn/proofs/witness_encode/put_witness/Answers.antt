use Rattle.std.proofs.Common.{arith, sym, List, ℕ}
use Rattle.std.proofs.lemmas.Grind.{common_steps}
use Rattle.wire.specs.Grammar.{sized_bytes}
use Rattle.wire.specs.laws.Extension.{extends-append, extends-trans}
use Rattle.txn.proofs.Lawful.{one_more, all_lawful}
use Rattle.txn.proofs.witness_encode.put_witness.Goals as goal

pub returns-in_err-put_script-clause-extends : goal.returns-in_err-put_script-clause-extends
returns-in_err-put_script-clause-extends c = extends-trans _ _ _ (extends-append _ _ _ c.loop-string.invariant.written) c.put_script.ensures.extends

pub loop-string-preserved : goal.loop-string-preserved
loop-string-preserved c = record {
  written = grind (arith, common_steps);
  lawful = one_more sized_bytes (λ (s : List ℕ). s) c.as_slice-string-items.result.now c.loop-string.string-index c.string-item.result c.loop-string-test.true c.string-item.is c.loop-string.invariant.lawful c.in_ok-put_script.ensures.lawful;
}

pub returns-clause-lawful : goal.returns-clause-lawful
returns-clause-lawful c = all_lawful sized_bytes (λ (s : List ℕ). s) c.args.strings.now c.as_slice-string-items.result.now c.loop-string.string-index c.loop-string-test.false (sym c.as_slice-string-items.ensures) c.loop-string.invariant.lawful
