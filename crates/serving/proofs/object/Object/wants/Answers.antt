use Rattle.serving.proofs.TokenLists.{then, wants_closed}
use Rattle.serving.proofs.object.Object.wants.Goals as goal

pub returns : goal.returns
returns c =
    let lines = then (then c.in_ok-triples.ensures c.in_ok-end_list.ensures) c.end.ensures in
    then c.in_ok-begin.ensures (then c.in_ok-begin_list.ensures (rw (wants_closed c.args.triples.now) at lines))
