use Rattle.tree.specs.laws.Calls.{later-first}
use Rattle.tree.proofs.laws.the_rank_is_the_place_of_the_last_call.Goals as goal

pub returns : goal.returns
returns c = λ calls a b ha hb n. later-first calls a b ha hb n
