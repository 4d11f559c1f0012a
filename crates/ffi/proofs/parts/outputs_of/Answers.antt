use Rattle.ffi.proofs.Rows.{output_short}
use Rattle.ffi.proofs.parts.outputs_of.Goals as goal

pub returns-in_default-clause-none : goal.returns-in_default-clause-none
returns-in_default-clause-none c = output_short c.args.rows.now c.loop-row.row-index _ _ _ c.loop-row-test.true c.loop-row.invariant.count c.in_default.ensures.refused.1
