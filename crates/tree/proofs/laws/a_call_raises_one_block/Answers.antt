use Rattle.tree.specs.laws.Ranks.{better-called, better-others}
use Rattle.tree.proofs.laws.a_call_raises_one_block.Goals as goal

pub returns-clause-raised : goal.returns-clause-raised
returns-clause-raised g c = better-called

pub returns-clause-others : goal.returns-clause-others
returns-clause-others g c = better-others
