use Rattle.wire.specs.laws.Extension.{extends-if, extends-trans}
use Rattle.txn.proofs.witness_encode.put_witnessed.Goals as goal

pub returns-in_err-put_outputs-clause-extends : goal.returns-in_err-put_outputs-clause-extends
returns-in_err-put_outputs-clause-extends c = extends-trans _ _ _ c.put_inputs.ensures.extends c.put_outputs.ensures.extends

pub returns-in_err-put_witnesses-clause-extends : goal.returns-in_err-put_witnesses-clause-extends
returns-in_err-put_witnesses-clause-extends c = extends-trans _ _ _ c.put_inputs.ensures.extends (extends-trans _ _ _ c.put_outputs.ensures.extends c.put_witnesses.ensures.extends)

pub returns-in_err-extend_from_slice-clause-extends : goal.returns-in_err-extend_from_slice-clause-extends
returns-in_err-extend_from_slice-clause-extends c = extends-trans _ _ _ c.put_inputs.ensures.extends (extends-trans _ _ _ c.put_outputs.ensures.extends (extends-trans _ _ _ c.put_witnesses.ensures.extends (extends-if _ _ _ _ c.extend_from_slice.ensures.items)))

pub returns-clause-extends : goal.returns-clause-extends
returns-clause-extends c = extends-trans _ _ _ c.put_inputs.ensures.extends (extends-trans _ _ _ c.put_outputs.ensures.extends (extends-trans _ _ _ c.put_witnesses.ensures.extends (extends-if _ _ _ _ c.extend_from_slice.ensures.items)))
