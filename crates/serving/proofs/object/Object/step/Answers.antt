use Rattle.std.proofs.Common.{codes}
use Rattle.json.specs.Json.{no_members}
use Rattle.serving.specs.Answers.{text}
use Rattle.serving.proofs.object.Object.step.Goals as goal
use Rattle.serving.proofs.TokenLists.{then, behind_moment}

pub returns : goal.returns
returns c =
    let step = c.args.step.now in
    let told = then c.in_ok-moment.ensures c.text-4.ensures in
    then (then (then (then c.in_ok-number.ensures c.in_ok-text.ensures) c.in_ok-text-2.ensures) c.in_ok-text-3.ensures)
    (rw (behind_moment step.moment (text (codes "reply") step.reply.now no_members)) at told)
