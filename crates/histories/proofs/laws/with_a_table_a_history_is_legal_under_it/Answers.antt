use Rattle.histories.specs.laws.Tables.{legal_with_table}
use Rattle.histories.proofs.laws.with_a_table_a_history_is_legal_under_it.Goals as goal

pub returns : goal.returns
returns c = λ book params table seats es. legal_with_table table book params seats es
