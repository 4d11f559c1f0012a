use Rattle.serving.proofs.object.Object.tip.Goals as goal
use Rattle.serving.proofs.TokenLists.{then}

pub returns : goal.returns
returns c = rw c.status_word.ensures at (then (then c.in_ok-number.ensures c.in_ok-number-2.ensures) c.text.ensures)
