use Rattle.serving.proofs.TokenLists.{then}
use Rattle.serving.proofs.object.Object.contradicted.Goals as goal

pub returns : goal.returns
returns c =
    rw (c.as_str.ensures.value, c.in_ok-triple_line.ensures) at
    (then (then c.in_ok-begin.ensures c.in_ok-text.ensures) c.end.ensures)
