use Rattle.model.specs.laws.Tries.{unmarked-tried}
use Rattle.model.proofs.laws.a_try_that_fails_marks_a_block.Goals as goal

pub returns : goal.returns
returns g c = unmarked-tried
