use Rattle.std.proofs.Common.{refl}
use Rattle.model.specs.Settle.{active}
use Rattle.model.specs.laws.Steps.{step_precious-active}
use Rattle.model.proofs.laws.the_active_block_may_be_called_precious.Goals as goal

pub returns : goal.returns
returns g c = λ r s i sound e. step_precious-active r s i (active r s) e sound refl
