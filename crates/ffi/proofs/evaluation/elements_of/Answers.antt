use Rattle.ffi.proofs.Rows.{size_short}
use Rattle.ffi.proofs.evaluation.elements_of.Goals as goal

pub returns-in_default-clause-none : goal.returns-in_default-clause-none
returns-in_default-clause-none c = size_short c.args.sizes.now c.loop-size.size-index _ _ _ c.loop-size-test.true c.loop-size.invariant.count c.in_default.ensures.refused.1
