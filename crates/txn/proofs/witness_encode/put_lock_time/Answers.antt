use Rattle.wire.specs.laws.Extension.{extends-if}
use Rattle.txn.proofs.witness_encode.put_lock_time.Goals as goal

pub returns-in_err-extend_from_slice-clause-extends : goal.returns-in_err-extend_from_slice-clause-extends
returns-in_err-extend_from_slice-clause-extends c = extends-if _ _ _ _ c.extend_from_slice.ensures.items

pub returns-clause-extends : goal.returns-clause-extends
returns-clause-extends c = extends-if _ _ _ _ c.extend_from_slice.ensures.items
