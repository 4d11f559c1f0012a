use Rattle.locks.specs.laws.MedianTime as laws
use Rattle.locks.proofs.laws.one_median.Goals as goal

pub returns : goal.returns
returns c = laws.one_median
