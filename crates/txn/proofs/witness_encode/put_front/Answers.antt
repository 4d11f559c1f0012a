use Rattle.wire.specs.laws.Extension.{extends-if, extends-trans}
use Rattle.txn.proofs.witness_encode.put_front.Goals as goal

pub returns-clause-extends : goal.returns-clause-extends
returns-clause-extends c = extends-trans _ _ _ (extends-if _ _ _ _ c.extend_from_slice.ensures.items) (extends-if _ _ _ _ c.extend_from_slice-2.ensures.items)
