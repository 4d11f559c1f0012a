-- The history as it is kept, with the chainstate after it.
use Rattle.std.specs.Prelude.{◌≡◌, ◌≤◌, Bool, true, false, List, None}
use Rattle.block.specs.BlockOfBytes.{block_of_bytes}
use Rattle.signatures.specs.Known.{Under}
use Rattle.signatures.specs.Triple.{Triples}
use Rattle.tree.specs.Limits.{max_blocks}
use Rattle.model.specs.declared.command.Command.{Command}
use Rattle.model.specs.declared.command.Command.TheVariants as command
use Rattle.model.specs.declared.reply.Reply.{Reply}
use Rattle.model.specs.declared.reply.Reply.TheVariants as reply
use Rattle.model.specs.declared.reply.SubmitReply.TheVariants.{DecodeFailed}
use Rattle.model.specs.declared.entry.Entry.{Entry}
use Rattle.model.specs.Submission.{kept_blocks}
use Rattle.activate.specs.CoreState.{WithCoins, IsChainstate}
use Rattle.view.specs.Origin.{Origin, known_in}
use Rattle.view.specs.ViewState.{IsLegal, state_after}

-- the chainstate is the one after the entries, where these signatures are valid
pub record IsTheirs (o : Origin) (valid : Triples) (chain : WithCoins) (journal : List Entry) : Type 0 where
  pub state_is : chain.core.state ≡ state_after o valid journal
  pub is_chainstate : IsChainstate chain valid

-- the entries are a legal history, and the chainstate is theirs under every set that agrees; its tree is no greater than it
-- may be
pub record KeepsHistory (o : Origin) (chain : WithCoins) (journal : List Entry) : Type 0 where
  pub legal : IsLegal o journal
  pub params_are : chain.core.params ≡ o.params
  pub theirs : Under (known_in o journal) (λ valid. IsTheirs o valid chain journal)
  pub few : kept_blocks chain.core.state ≤ max_blocks

-- each reply is that of a step, but DecodeFailed
abbrev pub is_step : Reply → Bool
is_step (reply.Submit DecodeFailed) = false
is_step r = true

-- a submission is answered by a reply to submissions, and a mark by one to marks
abbrev pub IsReplyTo : Command → Reply → Type 0
IsReplyTo (command.Submit bytes now) (reply.Submit value) = Unit {0}
IsReplyTo (command.Submit bytes now) (reply.Mark value) = ⊥
IsReplyTo c (reply.Submit value) = ⊥
IsReplyTo c (reply.Mark value) = Unit {0}

-- the command is a submission of bytes that are no block
abbrev pub IsUndecodable : Command → Type 0
IsUndecodable (command.Submit bytes now) = block_of_bytes bytes ≡ None
IsUndecodable c = ⊥
