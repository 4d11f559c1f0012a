use Rattle.std.proofs.Common.{arith}
use Rattle.lanes.proofs.PairsInPlace.{all_paired, one_more}
use Rattle.lanes.proofs.level.pairs.Goals as goal

pub loop-k-preserved : goal.loop-k-preserved
loop-k-preserved c =
    one_more c.args.level.now c.loop-k.level c.loop-k.k _ _ c.pair-hashed.result c.loop-k.invariant (omega (arith, c.loop-k-test.true)) c.pair-hashed.ensures

pub returns : goal.returns
returns c = all_paired c.args.level.now c.loop-k.level c.loop-k.k c.loop-k.invariant (omega (arith, c.loop-k-test.false))
