use Rattle.block.proofs.Records.{remain_after}
use Rattle.block.proofs.pieces.take.Goals as goal

pub returns-in_err-append-clause-remain : goal.returns-in_err-append-clause-remain
returns-in_err-append-clause-remain g c = remain_after _ _ _ _ c.loop-bytes.invariant.1 c.append.ensures.remain
