use Rattle.durable.proofs.TornLine.{not_refused}
use Rattle.durable.proofs.laws.a_torn_line_is_not_refused.Goals as goal

pub returns : goal.returns
returns c = not_refused
