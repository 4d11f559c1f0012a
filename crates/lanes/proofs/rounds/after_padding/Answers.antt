use Rattle.sha2.specs.Sha256.{padding}
use Rattle.lanes.proofs.KnownSchedule.{sums-at}
use Rattle.lanes.proofs.rounds.after_padding.Goals as goal

pub returns : goal.returns
returns c = λ l lt. c.after_known.ensures l lt (padding 64) sums-at
