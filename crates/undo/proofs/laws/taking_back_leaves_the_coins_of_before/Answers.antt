use Rattle.undo.specs.laws.RoundTrip.{reverted_after}
use Rattle.undo.proofs.laws.taking_back_leaves_the_coins_of_before.Goals as goal

pub returns : goal.returns
returns c = reverted_after
