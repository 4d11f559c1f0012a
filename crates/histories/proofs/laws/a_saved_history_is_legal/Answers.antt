use Rattle.signatures.specs.laws.Agreement.{found_agrees}
use Rattle.model.specs.Chainstate.{chainstate}
use Rattle.model.specs.Learnt.{found_in}
use Rattle.histories.specs.laws.Verdicts.{legal_without}
use Rattle.histories.proofs.laws.a_saved_history_is_legal.Goals as goal

pub returns : goal.returns
returns c = λ book params seats es h. let valid = (found_in es).valid in
    legal_without params valid seats (chainstate params valid).opening es (h.legal valid (found_agrees (found_in es)))
