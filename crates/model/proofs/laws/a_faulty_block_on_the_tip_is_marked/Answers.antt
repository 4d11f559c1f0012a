use Rattle.std.proofs.Common.{refl}
use Rattle.model.specs.Settle.{active}
use Rattle.model.specs.laws.Steps.{step_tip-fails}
use Rattle.model.proofs.laws.a_faulty_block_on_the_tip_is_marked.Goals as goal

pub returns : goal.returns
returns g c = λ r s now b reason sound is e. step_tip-fails r s sound now b (active r s) is refl reason e
