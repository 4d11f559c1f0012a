use Rattle.std.proofs.Common.{refl}
use Rattle.model.specs.Settle.{active}
use Rattle.model.specs.laws.Steps.{step-tip}
use Rattle.model.proofs.laws.a_block_on_the_tip_is_seen.Goals as goal

pub returns : goal.returns
returns g c = λ r s now b sound is e. step-tip r s sound now b (active r s) is refl e
