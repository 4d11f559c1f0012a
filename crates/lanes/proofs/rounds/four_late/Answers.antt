use Rattle.std.proofs.Common.{arith}
use Rattle.sha2.proofs.Schedule256.{IsRoundsAt_at}
use Rattle.lanes.proofs.rounds.four_late.Goals as goal

pub returns : goal.returns
returns c = λ l lt b h held.
    let one = c.late_round-v.ensures l lt b h held in
    let two = c.late_round-v-2.ensures l lt b h one in
    let three = c.late_round-v-3.ensures l lt b h (IsRoundsAt_at b h _ _ _ _ (omega arith) two) in
    let four = c.late_round.ensures l lt b h (IsRoundsAt_at b h _ _ _ _ (omega arith) three) in
    IsRoundsAt_at b h _ _ _ _ (omega arith) four
