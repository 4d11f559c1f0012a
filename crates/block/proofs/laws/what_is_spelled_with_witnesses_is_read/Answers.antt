use Rattle.std.proofs.Common.{refl}
use Rattle.wire.specs.laws.Reader.{front_law}
use Rattle.block.specs.Grammar.{block_by}
use Rattle.block.specs.computed.Reader.{block_by_at}
use Rattle.block.specs.laws.Reader.{block_by_decides}
use Rattle.block.specs.laws.BlockBytes.{decoded-spelled}
use Rattle.block.proofs.BlockBytes.{decoded-is-spelled}
use Rattle.block.proofs.laws.what_is_spelled_with_witnesses_is_read.Goals as goal

pub returns-clause-front : goal.returns-clause-front
returns-clause-front c = λ by a b more ha hb e. front_law (block_by by) (block_by_at by) (block_by_decides by) a b more ha hb e

pub returns-clause-read : goal.returns-clause-read
returns-clause-read c = λ by b lawful. decoded-spelled by ((block_by by).spell b) b lawful refl

pub returns-clause-spelled : goal.returns-clause-spelled
returns-clause-spelled c = λ by bytes b fits read. decoded-is-spelled by bytes b fits read
