use Rattle.interp.specs.laws.InputVerdict.{accepts-right}
use Rattle.interp.proofs.laws.the_verdict_is_computed.Goals as goal

pub returns : goal.returns
returns c = λ tx input spent flags triples. accepts-right tx input spent flags triples
