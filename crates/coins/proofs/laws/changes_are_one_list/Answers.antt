use Rattle.coins.specs.laws.Changes.{one_list}
use Rattle.coins.proofs.laws.changes_are_one_list.Goals as goal

pub returns : goal.returns
returns c = one_list
