use Rattle.signatures.specs.laws.Shape.{strict-sound, strict-again}
use Rattle.signatures.proofs.laws.shape_test.Goals as goal

pub returns : goal.returns
returns c = λ bytes. (strict-sound bytes, strict-again bytes)
