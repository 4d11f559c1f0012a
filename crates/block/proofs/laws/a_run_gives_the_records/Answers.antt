use Rattle.block.proofs.UniqueRecord.{run_splits}
use Rattle.block.proofs.laws.a_run_gives_the_records.Goals as goal

pub returns : goal.returns
returns c = λ file blocks rest. run_splits file rest blocks
