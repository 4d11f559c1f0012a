use Rattle.std.proofs.Common.{refl}
use Rattle.lanes.proofs.Midstates.{nothing_yet}
use Rattle.lanes.proofs.midstate.Midstate.new.Goals as goal

pub returns : goal.returns
returns c = record { count = refl; values = λ l lt. nothing_yet _ (c.initial.ensures l lt) }
