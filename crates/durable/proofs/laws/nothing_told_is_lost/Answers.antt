use Rattle.durable.proofs.Lives.{grows, has}
use Rattle.durable.proofs.laws.nothing_told_is_lost.Goals as goal

pub returns-clause-grows : goal.returns-clause-grows
returns-clause-grows c = grows

pub returns-clause-has : goal.returns-clause-has
returns-clause-has c = has
