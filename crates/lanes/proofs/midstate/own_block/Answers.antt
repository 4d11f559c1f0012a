use Rattle.std.proofs.Common.{◌/◌, length, ◌∙◌, arith}
use Rattle.lanes.proofs.Midstates.{block_of_part}
use Rattle.lanes.proofs.midstate.own_block.Goals as goal

pub returns : goal.returns
returns c =
    let parts = c.args.parts.now in
    c.copy_from_slice.ensures.after ∙ block_of_part parts c.args.l c.args.k (length parts / 8) _ c.requires.k (omega arith)
