use Rattle.std.proofs.Common.{arith}
use Rattle.ripemd.proofs.Steps.{lines_at}
use Rattle.ripemd.proofs.block.Lines.round.Goals as goal

pub returns : goal.returns
returns g c = λ h at.
    let x = c.args.words.now in
    let one = c.four_steps.ensures h at in
    let two = c.four_steps-2.ensures h one in
    let three = c.four_steps-3.ensures h (lines_at x h _ _ _ (omega arith) two) in
    lines_at x h _ _ _ (omega arith) (c.four_steps-4.ensures h (lines_at x h _ _ _ (omega arith) three))
