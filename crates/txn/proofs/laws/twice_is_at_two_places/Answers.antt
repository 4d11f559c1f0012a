use Rattle.txn.specs.laws.Check.{has_twice-means}
use Rattle.txn.proofs.laws.twice_is_at_two_places.Goals as goal

pub returns : goal.returns
returns c = has_twice-means
