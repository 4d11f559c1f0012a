use Rattle.model.specs.Chainstate.{chainstate}
use Rattle.histories.specs.laws.Replies.{replies_begin}
use Rattle.histories.proofs.laws.what_is_asked_says_what_is_replied.Goals as goal

pub returns : goal.returns
returns c = λ params valid seats others xs ys g h a b p.
    let m = chainstate params valid in replies_begin m seats others m.opening xs ys g h a b p
