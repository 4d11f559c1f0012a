use Rattle.std.proofs.Common.{◌∙◌, arith}
use Rattle.lanes.proofs.PairsInPlace.{turn_more}
use Rattle.lanes.proofs.level.eight_by_eight.Goals as goal

pub loop-k-preserved : goal.loop-k-preserved
loop-k-preserved c =
    turn_more c.args.level.now c.loop-k.level c.copy_from_slice.new.self c.loop-k.k _ _ c.loop-k.invariant (omega (arith, c.loop-k-test.true)) (omega arith) (omega arith)
    (c.copy_from_slice.ensures.after ∙ c.eight-hashed.ensures) (omega arith)
