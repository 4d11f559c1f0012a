use Rattle.wire.specs.laws.Extension.{extends-if, extends-trans}
use Rattle.txn.proofs.encode.put_tx.Goals as goal

pub returns-in_err-put_inputs-clause-extends : goal.returns-in_err-put_inputs-clause-extends
returns-in_err-put_inputs-clause-extends c = extends-trans _ _ _ (extends-if _ _ _ _ c.extend_from_slice.ensures.items) c.put_inputs.ensures.extends

pub returns-in_err-put_outputs-clause-extends : goal.returns-in_err-put_outputs-clause-extends
returns-in_err-put_outputs-clause-extends c = extends-trans _ _ _ (extends-if _ _ _ _ c.extend_from_slice.ensures.items) (extends-trans _ _ _ c.put_inputs.ensures.extends c.put_outputs.ensures.extends)

pub returns-in_err-extend_from_slice-2-clause-extends : goal.returns-in_err-extend_from_slice-2-clause-extends
returns-in_err-extend_from_slice-2-clause-extends c = extends-trans _ _ _ (extends-if _ _ _ _ c.extend_from_slice.ensures.items) (extends-trans _ _ _ c.put_inputs.ensures.extends (extends-trans _ _ _ c.put_outputs.ensures.extends (extends-if _ _ _ _ c.extend_from_slice-2.ensures.items)))

pub returns-clause-extends : goal.returns-clause-extends
returns-clause-extends c = extends-trans _ _ _ (extends-if _ _ _ _ c.extend_from_slice.ensures.items) (extends-trans _ _ _ c.put_inputs.ensures.extends (extends-trans _ _ _ c.put_outputs.ensures.extends (extends-if _ _ _ _ c.extend_from_slice-2.ensures.items)))
