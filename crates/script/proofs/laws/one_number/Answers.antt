use Rattle.script.proofs.NumberBytes.{num_value-spelled, spelled-shortest}
use Rattle.script.proofs.laws.one_number.Goals as goal

pub returns-clause-reads : goal.returns-clause-reads
returns-clause-reads c = num_value-spelled

pub returns-clause-shortest : goal.returns-clause-shortest
returns-clause-shortest c = spelled-shortest
