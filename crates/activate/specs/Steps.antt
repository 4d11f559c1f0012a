-- What a command does to a chainstate over lent coins.
use Rattle.std.specs.Prelude.{◌≡◌}
use Rattle.signatures.specs.Triple.{Triples}
use Rattle.coins.specs.Changes.{Changes, AreChanges}
use Rattle.model.specs.declared.command.Command.{Command}
use Rattle.model.specs.declared.reply.Reply.{Reply}
use Rattle.model.specs.Commands.{outcome}
use Rattle.model.specs.Regtest.{regtest}
use Rattle.activate.specs.CoreState.{CoreState, KeepsUndo, coins_of}

-- under these valid signatures a command leads from a to b, with this reply and this list of changes, which is the one such list
pub record IsStep (triples : Triples) (a b : CoreState) (command : Command) (reply : Reply) (changes : Changes) : Type 0 where
  pub outcome_is : (b.state, reply) ≡ outcome (regtest a.params triples) a.state command
  pub changes_are : AreChanges (coins_of a) (coins_of b) changes
  pub params_are : b.params ≡ a.params
  -- of the blocks that became active undo is kept too, and of none that was taken back
  pub undo_is : KeepsUndo a b
