use Rattle.model.specs.laws.SettledState.{one_candidate, best_usable}
use Rattle.model.proofs.laws.a_settled_state_has_one_candidate.Goals as goal

pub returns-clause-only : goal.returns-clause-only
returns-clause-only g c = λ r s d sound l h. one_candidate r s sound d l h

pub returns-clause-best : goal.returns-clause-best
returns-clause-best g c = λ r s sound. best_usable r s sound
