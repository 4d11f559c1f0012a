use Rattle.model.specs.Chainstate.{chainstate}
use Rattle.histories.specs.Histories.{without_verdicts}
use Rattle.histories.specs.laws.Replies.{replies_begin}
use Rattle.histories.specs.laws.Verdicts.{answered_without, legal_without}
use Rattle.histories.proofs.laws.nodes_that_are_asked_the_same_reply_the_same.Goals as goal

pub returns : goal.returns
returns c = λ book other params table found seats others xs ys valid g h agrees too a b p.
    let m = chainstate params valid in
    replies_begin m seats others m.opening (without_verdicts xs) (without_verdicts ys)
    (legal_without params valid seats m.opening xs (g.legal valid agrees))
    (legal_without params valid others m.opening ys (h.legal valid too))
    (answered_without xs a) (answered_without ys b) p
