use Rattle.ripemd.proofs.Steps.{lines_next}
use Rattle.ripemd.proofs.block.Lines.step.Goals as goal

pub returns : goal.returns
returns c = λ h at. lines_next c.args.words.now h c.args.j c.args.self _ _ at c.left_step.ensures c.right_step.ensures
