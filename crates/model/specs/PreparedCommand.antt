-- The command that was prepared.
use Rattle.model.specs.declared.command.Command.{Command}
use Rattle.model.specs.declared.command.Command.TheVariants as command
use Rattle.model.specs.declared.submission.PreparedCommand.{PreparedCommand}
use Rattle.model.specs.declared.submission.PreparedCommand.TheVariants.{Submit, Invalidate, Reconsider, Precious, Learn}

-- as a history keeps it
abbrev pub command_of : PreparedCommand → Command
command_of (Submit bytes now) = command.Submit bytes now
command_of (Invalidate id) = command.Invalidate id
command_of (Reconsider id) = command.Reconsider id
command_of (Precious id) = command.Precious id
command_of (Learn triple valid) = command.Learn triple valid
