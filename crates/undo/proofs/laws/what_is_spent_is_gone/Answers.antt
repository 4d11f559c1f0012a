use Rattle.undo.specs.laws.RoundTrip.{gone-after}
use Rattle.undo.proofs.laws.what_is_spent_is_gone.Goals as goal

pub returns : goal.returns
returns c = gone-after
