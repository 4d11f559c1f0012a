use Rattle.std.proofs.Common.{◌∙◌, sym, arith}
use Rattle.interp.proofs.Truth.{truth_at_zero, truth_early, truth_last, truth_end}
use borrow.Author.Tests.{lt-ltb}
use Rattle.interp.proofs.element.is_true.Goals as goal

pub returns-then-i-bytes : goal.returns-then-i-bytes
returns-then-i-bytes c =
    lt-ltb _ _ (omega arith) ∙ sym (c.loop-i.invariant ∙ truth_early c.args.bytes.now c.loop-i.i (omega arith) (omega arith))

pub returns-else-i-bytes : goal.returns-else-i-bytes
returns-else-i-bytes c = sym (c.loop-i.invariant ∙ truth_last c.args.bytes.now c.loop-i.i (omega arith) (omega arith) (omega arith))

pub loop-i-preserved : goal.loop-i-preserved
loop-i-preserved c = c.loop-i.invariant ∙ truth_at_zero c.args.bytes.now c.loop-i.i (omega arith) (omega arith)

pub returns : goal.returns
returns c = sym (c.loop-i.invariant ∙ truth_end c.args.bytes.now c.loop-i.i (omega arith))
