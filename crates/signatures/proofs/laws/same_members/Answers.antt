use Rattle.signatures.specs.laws.Members.{same-members}
use Rattle.signatures.proofs.laws.same_members.Goals as goal

pub returns : goal.returns
returns c = λ a b same. same-members a b same
