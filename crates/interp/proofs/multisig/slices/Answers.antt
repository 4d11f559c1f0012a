use Rattle.std.proofs.Common.{◌∙◌, ap, arith}
use Rattle.script.specs.Removal.{bytes_of}
use Rattle.interp.proofs.Piles.{slices-more}
use Rattle.interp.proofs.multisig.slices.Goals as goal

pub loop-i-preserved : goal.loop-i-preserved
loop-i-preserved c =
    ap bytes_of c.in_ok-push.ensures.items
    ∙ slices-more c.loop-i.slices.items c.as_slice.result c.at.result.now c.args.from c.loop-i.i c.args.stack.now c.loop-i.invariant (omega arith) c.at.ensures c.as_slice.ensures
