use Rattle.std.proofs.Common.{false}
use Rattle.block.proofs.BlockBytes.{decoded-is-spelled}
use Rattle.block.proofs.laws.what_is_read_is_spelled.Goals as goal

pub returns : goal.returns
returns c = λ bytes b fits read. decoded-is-spelled false bytes b fits read
