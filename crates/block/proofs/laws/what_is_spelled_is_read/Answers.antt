use Rattle.std.proofs.Common.{refl, false}
use Rattle.block.specs.Grammar.{block}
use Rattle.block.specs.laws.BlockBytes.{decoded-spelled}
use Rattle.block.proofs.laws.what_is_spelled_is_read.Goals as goal

pub returns : goal.returns
returns c = λ b lawful. decoded-spelled false (block.spell b) b lawful refl
