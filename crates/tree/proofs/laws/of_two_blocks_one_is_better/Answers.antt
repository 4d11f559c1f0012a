use Rattle.tree.specs.laws.Ranks.{better_or, better_falls, better_trans}
use Rattle.tree.proofs.laws.of_two_blocks_one_is_better.Goals as goal

pub returns-clause-one : goal.returns-clause-one
returns-clause-one g c = better_or

pub returns-clause-not_both : goal.returns-clause-not_both
returns-clause-not_both g c = better_falls

pub returns-clause-through : goal.returns-clause-through
returns-clause-through g c = better_trans
