use Rattle.script.proofs.Shape.{p2sh-shaped, shaped-p2sh}
use Rattle.script.proofs.laws.p2sh_shape.Goals as goal

pub returns : goal.returns
returns c = λ script. (p2sh-shaped script, shaped-p2sh script)
