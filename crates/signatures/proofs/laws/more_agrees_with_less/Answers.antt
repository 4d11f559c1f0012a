use Rattle.signatures.specs.laws.Growth.{agrees-with-less}
use Rattle.signatures.proofs.laws.more_agrees_with_less.Goals as goal

pub returns : goal.returns
returns c = agrees-with-less
