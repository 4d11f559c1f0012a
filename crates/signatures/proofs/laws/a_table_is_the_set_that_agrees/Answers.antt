use Rattle.signatures.specs.laws.Growth.{table-alone}
use Rattle.signatures.proofs.laws.a_table_is_the_set_that_agrees.Goals as goal

pub returns : goal.returns
returns c = table-alone
