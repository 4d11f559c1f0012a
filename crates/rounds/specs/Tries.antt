-- How many blocks a command may try.
use Rattle.std.specs.Prelude.{ℕ, Bool, not, ◌&&◌, Option, None, Some, option_and_then, length}
use Rattle.std.specs.List.{filter}
use Rattle.std.specs.Option.{option_map}
use Rattle.hash.specs.declared.id.Id.{Id}
use Rattle.block.specs.declared.block.Block.{Block}
use Rattle.block.specs.BlockOfBytes.{block_of_bytes}
use Rattle.signatures.specs.Triple.{Triples}
use Rattle.tree.specs.Branches.{on, place_of, places}
use Rattle.tree.specs.Names.{names}
use Rattle.tree.specs.State.{State, with_block, with_call, with_mark, without_marks}
use Rattle.model.specs.Regtest.{regtest}
use Rattle.model.specs.Settle.{on_candidate}
use Rattle.model.specs.Step.{Request, Submit, Invalidate, Reconsider, Precious}
use Rattle.model.specs.declared.command.Command.{Command}
use Rattle.model.specs.declared.command.Command.TheVariants as command
use Rattle.activate.specs.CoreState.{CoreState}

-- the state before blocks are tried, where the block that is named, or the submitted one's parent, is kept
abbrev pub state_to_settle : State Block → Request Block Id → Option (State Block)
state_to_settle s (Submit now b) = option_map (with_block s b) (place_of names s.blocks (names.parent_of b))
state_to_settle s (Invalidate id) = option_map (with_mark s) (place_of names s.blocks id)
state_to_settle s (Reconsider id) = option_map (without_marks s) (place_of names s.blocks id)
state_to_settle s (Precious id) = option_map (with_call s) (place_of names s.blocks id)

abbrev pub request_of : Command → Option (Request Block Id)
request_of (command.Submit bytes now) = option_map (Submit now) (block_of_bytes bytes)
request_of (command.Invalidate id) = Some (Invalidate id)
request_of (command.Reconsider id) = Some (Reconsider id)
request_of (command.Precious id) = Some (Precious id)
request_of (command.Learn triple valid) = None

module _ (c : CoreState) (triples : Triples) where
  -- on the branch of a candidate, and not on the active one
  abbrev pub may_be_tried : State Block → ℕ → Bool
  may_be_tried s p = on_candidate (regtest c.params triples) s p && not (on s.blocks c.active p)

  abbrev pub tries_in : Option (State Block) → ℕ
  tries_in None = 0
  tries_in (Some s) = length (filter (may_be_tried s) (places s.blocks))

  -- how many blocks the command tries at most
  abbrev pub most_tries : Command → ℕ
  most_tries command = tries_in (option_and_then (state_to_settle c.state) (request_of command))
