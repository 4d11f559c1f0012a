use Rattle.wire.specs.laws.Reader.{front_law}
use Rattle.block.specs.Grammar.{block}
use Rattle.block.specs.computed.Reader.{block_at}
use Rattle.block.specs.laws.Reader.{block_decides}
use Rattle.block.proofs.laws.no_front.Goals as goal

pub returns : goal.returns
returns c = λ a b more ha hb e. front_law block block_at block_decides a b more ha hb e
