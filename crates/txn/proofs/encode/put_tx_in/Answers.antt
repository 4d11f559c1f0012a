use Rattle.wire.specs.laws.Extension.{extends-if, extends-trans}
use Rattle.txn.proofs.encode.put_tx_in.Goals as goal

pub returns-in_err-put_script-clause-extends : goal.returns-in_err-put_script-clause-extends
returns-in_err-put_script-clause-extends c = extends-trans _ _ _ c.put_outpoint.ensures.extends c.put_script.ensures.extends

pub returns-in_err-extend_from_slice-clause-extends : goal.returns-in_err-extend_from_slice-clause-extends
returns-in_err-extend_from_slice-clause-extends c = extends-trans _ _ _ c.put_outpoint.ensures.extends (extends-trans _ _ _ c.put_script.ensures.extends (extends-if _ _ _ _ c.extend_from_slice.ensures.items))

pub returns-clause-extends : goal.returns-clause-extends
returns-clause-extends c = extends-trans _ _ _ c.put_outpoint.ensures.extends (extends-trans _ _ _ c.put_script.ensures.extends (extends-if _ _ _ _ c.extend_from_slice.ensures.items))
