use Rattle.wire.specs.laws.Extension.{extends-either, extends-if, extends-trans}
use Rattle.txn.proofs.encode.put_script.Goals as goal

pub returns-clause-extends : goal.returns-clause-extends
returns-clause-extends c = extends-trans _ _ _ (extends-either _ _ _ c.put_compact.result c.put_compact.ensures.written c.put_compact.ensures.kept) (extends-if _ _ _ _ c.extend_from_slice.ensures.items)
