-- What a command does, its bytes read as a block.
use Rattle.std.specs.Prelude.{ℕ, List, [], ◌∷◌, Option, Some, None, unwrap_or}
use Rattle.hash.specs.declared.id.Id.{Id}
use Rattle.block.specs.declared.block.Block.{Block}
use Rattle.block.specs.BlockOfBytes.{block_of_bytes}
use Rattle.tree.specs.State.{State}
use Rattle.model.specs.declared.command.Command.{Command}
use Rattle.model.specs.declared.command.Command.TheVariants as command
use Rattle.model.specs.declared.reply.Reply.{Reply}
use Rattle.model.specs.declared.reply.MarkReply.TheVariants.{Done}
use Rattle.model.specs.declared.reply.SubmitReply.TheVariants.{DecodeFailed}
use Rattle.model.specs.Rules.{Rules}
use Rattle.model.specs.Submission.{Outcome, submit_says}
use Rattle.model.specs.Step.{Submit, Invalidate, Reconsider, Precious, mark_says, step}

module _ (r : Rules Block Id) where
  -- the step of a submission: bytes that spell no block take none
  unfoldable pub submit_step : State Block → ℕ → Option Block → Option (Outcome Block)
  submit_step s now None = None
  submit_step s now (Some b) = Some (step r s (Submit now b))

  -- the state after a command and the reply, where the command takes a step
  unfoldable pub command_step : State Block → Command → Option (Outcome Block)
  command_step s (command.Submit bytes now) = submit_step s now (block_of_bytes bytes)
  command_step s (command.Invalidate id) = Some (step r s (Invalidate id))
  command_step s (command.Reconsider id) = Some (step r s (Reconsider id))
  command_step s (command.Precious id) = Some (step r s (Precious id))
  -- a verdict on a signature is for the history to keep, and changes no block
  command_step s (command.Learn triple valid) = Some (mark_says s Done)

  -- the same where each command is answered: one that takes no step leaves the state
  abbrev pub outcome : State Block → Command → Outcome Block
  outcome s c = unwrap_or (command_step s c) (submit_says s DecodeFailed)

  -- the state that a list of commands leaves, and its replies
  abbrev pub state_after_commands : State Block → List Command → State Block
  state_after_commands s [] = s
  state_after_commands s (c ∷ cs) = state_after_commands (outcome s c).0 cs

  abbrev pub replies_of : State Block → List Command → List Reply
  replies_of s [] = []
  replies_of s (c ∷ cs) = (outcome s c).1 ∷ replies_of (outcome s c).0 cs
