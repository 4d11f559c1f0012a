use Rattle.std.proofs.Common.{[], ◌∷◌, ◌++◌}
use Rattle.journal.proofs.Given.{one_more}
use Rattle.journal.proofs.blk_records.read_out.Goals as goal

pub loop-block-preserved : goal.loop-block-preserved
loop-block-preserved c reading =
    let given = c.loop-block.invariant reading in
    let block = rw c.in-Some.is at c.in_ok-_block.ensures.block in
    (given.0 ++ _ ∷ [], one_more _ _ _ _ _ _ given.1 block.0 block.1 block.2)
