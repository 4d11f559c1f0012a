-- What commands do: bytes that spell no block take no step, and a list of commands is what its requests are.
use Rattle.std.proofs.Common.{◌≡◌, ℕ, List, Option, None, subst}
use Rattle.block.specs.declared.block.Block.{Block}
use Rattle.block.specs.BlockOfBytes.{block_of_bytes}
use Rattle.signatures.specs.Triple.{Triples}
use Rattle.rules.specs.declared.params.Params.{Params}
use Rattle.tree.specs.State.{State}
use Rattle.model.specs.declared.command.Command.{Command}
use Rattle.model.specs.declared.command.Command.TheVariants as command
use Rattle.model.specs.declared.reply.Reply.{Reply}
use Rattle.model.specs.declared.entry.Entry.{Entry}
use Rattle.model.specs.Regtest.{regtest}
use Rattle.model.specs.Commands.{submit_step, command_step}
use Rattle.model.specs.Chainstate.{chainstate}
use Rattle.model.specs.History.{Answers, Stands}

no_answer : (params : Params) (triples : Triples) (r : Option Reply) (bytes : List ℕ) (now : ℕ) (s : State Block) → block_of_bytes bytes ≡ None → Answers r (submit_step (regtest params triples) s now (block_of_bytes bytes)) → ⊥
unfolding submit_step
no_answer params triples r bytes now s none h = rw none at h

-- an entry of such bytes stands nowhere
pub undecodable : (params : Params) (triples : Triples) (seats : ℕ) (s : State Block) (e : Entry) (bytes : List ℕ) (now : ℕ) → Stands (chainstate params triples) seats s e → e.command ≡ command.Submit bytes now → block_of_bytes bytes ≡ None → ⊥
unfolding command_step
undecodable params triples seats s e bytes now h is none = no_answer params triples e.reply bytes now s none (subst (λ (k : Command). Answers e.reply (command_step (regtest params triples) s k)) is h.reply_is)
