use Rattle.std.proofs.Common.{◌≡◌, ◌++◌, drop}
use Rattle.tree.specs.State.{opening}
use Rattle.model.specs.Commands.{replies_of}
use Rattle.model.specs.Regtest.{regtest}
use Rattle.activate.specs.CoreState.{IsChainstate}
use Rattle.journal.proofs.quick.quick.Given as goal

abbrev pub invariant-loop-index : goal.invariant-loop-index
invariant-loop-index g l = record {
  replies : l.replies.items ++ replies_of (regtest l.params l.table) l.chain.core.state (drop l.index l.commands) ≡ replies_of (regtest l.params l.table) opening l.commands;
  params : l.chain.core.params ≡ l.params;
  is_chainstate : IsChainstate l.chain l.table;
}
