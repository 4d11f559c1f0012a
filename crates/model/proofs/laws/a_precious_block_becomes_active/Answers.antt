use Rattle.model.specs.laws.Steps.{active_precious}
use Rattle.model.proofs.laws.a_precious_block_becomes_active.Goals as goal

pub returns : goal.returns
returns g c = λ r s i p sound e u v l. active_precious r s i p e sound u v l
