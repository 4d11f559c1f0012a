use Rattle.signatures.specs.laws.Agreement.{found_agrees}
use Rattle.model.specs.Learnt.{found_in}
use Rattle.histories.proofs.laws.what_was_found_valid_agrees.Goals as goal

pub returns : goal.returns
returns c = λ es. found_agrees (found_in es)
