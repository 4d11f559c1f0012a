use Rattle.serving.proofs.TokenLists.{then, spent_closed}
use Rattle.serving.proofs.object.Object.spent.Goals as goal

pub returns : goal.returns
returns c =
    then c.in_ok-begin_list.ensures (rw (spent_closed c.args.coins.now) at (then c.in_ok-spent_coins.ensures c.end_list.ensures))
