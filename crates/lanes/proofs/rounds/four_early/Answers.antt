use Rattle.std.proofs.Common.{arith, ◌∙◌, ap}
use Rattle.sha2.specs.Sha256.{rounds, schedule}
use Rattle.lanes.proofs.rounds.four_early.Goals as goal

pub returns : goal.returns
returns c = λ l lt b h held at.
    let after = rounds h (schedule b 48) in
    let one = c.early_round-v.ensures l lt b h held at in
    let two = c.early_round-v-2.ensures l lt b h held one in
    let three = c.early_round-v-3.ensures l lt b h held (two ∙ ap after (omega arith)) in
    c.early_round.ensures l lt b h held (three ∙ ap after (omega arith)) ∙ ap after (omega arith)
