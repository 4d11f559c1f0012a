use Rattle.std.proofs.Common.{◌≡◌, ◌++◌, drop}
use Rattle.tree.specs.State.{opening}
use Rattle.model.specs.Commands.{replies_of}
use Rattle.model.specs.Regtest.{regtest}
use Rattle.reference.specs.inside.Replay.{IsRight, state_of_replayed}
use Rattle.reference.proofs.replies.slow_watched.Given as goal

abbrev pub invariant-loop-index : goal.invariant-loop-index
invariant-loop-index g l = record {
  right : IsRight (regtest l.params l.table) l.old;
  replies : l.replies.items ++ replies_of (regtest l.params l.table) (state_of_replayed l.old) (drop l.index l.commands) ≡ replies_of (regtest l.params l.table) opening l.commands;
}
