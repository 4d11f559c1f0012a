use Rattle.undo.specs.laws.RoundTrip.{stays-after}
use Rattle.undo.proofs.laws.all_other_coins_stay.Goals as goal

pub returns : goal.returns
returns c = stays-after
