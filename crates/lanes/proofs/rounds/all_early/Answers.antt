use Rattle.std.proofs.Common.{refl}
use Rattle.lanes.specs.State.{lane}
use Rattle.sha2.specs.Sha256.{rounds}
use Rattle.lanes.proofs.rounds.all_early.Goals as goal

pub returns : goal.returns
unfolding rounds
returns c = λ l lt b held.
    let h = lane c.args.v l in
    let four = c.four_early-v.ensures l lt b h held refl in
    let eight = c.four_early-v-2.ensures l lt b h held four in
    let twelve = c.four_early-v-3.ensures l lt b h held eight in
    c.four_early.ensures l lt b h held twelve
