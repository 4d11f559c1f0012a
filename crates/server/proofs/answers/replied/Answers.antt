use Rattle.std.specs.Prelude.{IfOk}
use Rattle.std.proofs.Common.{subst, sym}
use Rattle.server.specs.inside.Answers.{TellsStep}
use Rattle.server.proofs.AnswerLines.{reply_told}
use Rattle.server.proofs.answers.replied.Goals as goal

pub returns-in-Ok-write : goal.returns-in-Ok-write
returns-in-Ok-write g c =
    subst (λ r. IfOk c.answer.result (λ line. TellsStep g.T.Display.output c.args.blank r c.args.seat.now line.items)) (sym c.in-Ok.is)
    (reply_told (λ s. s.bytes) c.args.blank c.in-Ok.stamped.at (g.T.Display.output c.in-Ok.stamped.value) c.new-word.result c.write.new.self _ c.answer.result
    c.new-word.ensures c.in-Ok-write.ensures.writes c.as_str.ensures.value c.answer.ensures)
