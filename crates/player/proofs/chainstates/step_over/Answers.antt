use Rattle.signatures.specs.laws.Agreement.{table_agrees}
use Rattle.connect.specs.laws.AtTable.{at_table}
use Rattle.activate.specs.CoreState.{Follows}
use Rattle.player.proofs.chainstates.step_over.Goals as goal

pub step_over-requires-clause-follows : goal.step_over-requires-clause-follows
step_over-requires-clause-follows c = at_table c.args.table.now (Follows c.args.core.now) c.requires.follows

pub returns-clause-follows : goal.returns-clause-follows
returns-clause-follows c = c.step_over.ensures.follows c.args.table.now (table_agrees c.args.table.now)
