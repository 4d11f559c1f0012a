use Rattle.node.specs.laws.Runs.{one_history, own_steps, one_seat}
use Rattle.node.proofs.laws.all_calls_are_of_one_run.Goals as goal

pub returns-clause-places : goal.returns-clause-places
returns-clause-places c = λ o history seat calls p legal makes begins valid agrees. one_history o history valid seat calls p legal agrees makes begins

pub returns-clause-steps : goal.returns-clause-steps
returns-clause-steps c = λ o history seat calls p makes stands. own_steps o history seat calls p makes stands

pub returns-clause-apart : goal.returns-clause-apart
returns-clause-apart c = λ o history valid k l at c d r s a b. one_seat o history valid k l at c d r s a b
