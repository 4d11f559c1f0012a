use Rattle.block.proofs.UniqueRecord.{one_split}
use Rattle.block.proofs.laws.one_split.Goals as goal

pub returns : goal.returns
returns c = λ file blocks rest others last. one_split file blocks others rest last
