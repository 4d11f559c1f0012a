use Rattle.std.proofs.Common.{arith}
use Rattle.ripemd.proofs.Steps.{lines_at}
use Rattle.ripemd.proofs.block.Lines.four_steps.Goals as goal

pub returns : goal.returns
returns c = λ h at.
    let x = c.args.words.now in
    let one = c.step.ensures h at in
    let two = c.step-2.ensures h one in
    let three = c.step-3.ensures h (lines_at x h _ _ _ (omega arith) two) in
    lines_at x h _ _ _ (omega arith) (c.step-4.ensures h (lines_at x h _ _ _ (omega arith) three))
