use Rattle.model.specs.laws.History.{prefix_shorter}
use Rattle.model.proofs.laws.beginnings_are_ordered.Goals as goal

pub returns : goal.returns
returns c = λ a b history p q le. prefix_shorter a b history p q le
