use Rattle.wire.specs.laws.Extension.{extends-trans}
use Rattle.block.proofs.encode.put_block.Goals as goal

pub returns-clause-extends : goal.returns-clause-extends
returns-clause-extends c = extends-trans _ _ _ c.put_header.ensures.extends c.put_txs.ensures.extends
