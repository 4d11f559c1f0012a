use Rattle.tree.specs.laws.Ranks.{better-precedes, better_where}
use Rattle.tree.proofs.laws.better_is_by_height_rank_and_arrival.Goals as goal

pub returns : goal.returns
returns g c = λ s a b. (better-precedes s a b, better_where s a b)
