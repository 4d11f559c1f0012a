use Rattle.model.specs.PreparedCommand.{command_of}
use Rattle.node.proofs.StepAnswers.{mark_news}
use Rattle.node.proofs.seat.Seat.mark.Goals as goal

pub write-requires-clause-ordinary : goal.write-requires-clause-ordinary
write-requires-clause-ordinary g c _ _ known = mark_news known (command_of c.args.command.now) c.requires.mark
