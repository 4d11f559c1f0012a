use Rattle.std.proofs.Common.{◌≡◌, ◌++◌, drop, take}
use Rattle.model.specs.Commands.{replies_of, state_after_commands}
use Rattle.model.specs.Regtest.{regtest}
use Rattle.activate.specs.CoreState.{IsChainstate}
use Rattle.activate.proofs.chainstate.Chainstate.run.Given as goal

abbrev pub invariant-loop-index : goal.invariant-loop-index
invariant-loop-index g l = record {
  replies : l.replies.items ++ replies_of (regtest l.initial.self.core.params l.env.signatures.now) l.self.core.state (drop l.index l.commands) ≡ replies_of (regtest l.initial.self.core.params l.env.signatures.now) l.initial.self.core.state l.commands;
  state : l.self.core.state ≡ state_after_commands (regtest l.initial.self.core.params l.env.signatures.now) l.initial.self.core.state (take l.index l.commands);
  params : l.self.core.params ≡ l.initial.self.core.params;
  is_chainstate : IsChainstate l.self l.env.signatures.now;
}
