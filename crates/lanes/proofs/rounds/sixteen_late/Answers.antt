use Rattle.std.proofs.Common.{arith}
use Rattle.sha2.proofs.Schedule256.{IsRoundsAt_at}
use Rattle.lanes.proofs.rounds.sixteen_late.Goals as goal

pub returns : goal.returns
returns c = λ l lt b h held.
    let four = c.four_late-v.ensures l lt b h (IsRoundsAt_at b h _ _ _ _ (omega arith) held) in
    let eight = c.four_late-v-2.ensures l lt b h four in
    let twelve = c.four_late-v-3.ensures l lt b h eight in
    c.four_late.ensures l lt b h twelve
