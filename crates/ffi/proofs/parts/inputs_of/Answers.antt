use Rattle.ffi.proofs.Rows.{input_short}
use Rattle.ffi.proofs.parts.inputs_of.Goals as goal

pub returns-in_default-clause-none : goal.returns-in_default-clause-none
returns-in_default-clause-none c = input_short c.args.rows.now c.loop-row.row-index _ _ _ c.loop-row-test.true c.loop-row.invariant.count c.in_default.ensures.refused.1
