use Rattle.std.proofs.Common.{codes}
use Rattle.serving.proofs.object.Object.info.Goals as goal
use Rattle.serving.specs.Answers.{info_members}
use Rattle.serving.proofs.TokenLists.{then, height_closed}

pub returns : goal.returns
unfolding info_members
returns c =
    let named = then (then (then c.in_ok-text.ensures c.in_ok-text-2.ensures) c.in_ok-number.ensures) c.in_ok-number-2.ensures in
    let heights = then (then (then (then c.in_ok-begin.ensures c.in_ok-number-3.ensures) c.in_ok-number-4.ensures)
    c.in_ok-number-5.ensures) c.in_ok-number-6.ensures in
    let told = then c.in_ok-height_if.ensures c.in_ok-end.ensures in
    let last = rw (height_closed (codes "nulldummy") c.args.info.now.nulldummy) at told in
    rw (c.from.ensures, c.from-2.ensures, c.from-3.ensures, c.from-4.ensures) at
    (then (then (then named heights) last) c.number-7.ensures)
