-- What all coins are worth along a history.
use Rattle.std.proofs.Common.{pos, ◌≤ℤ◌, List, [], ◌∷◌, Option, Some, None}
use Rattle.hash.specs.declared.id.Id.{Id}
use Rattle.block.specs.BlockOfBytes.{block_of_bytes}
use Rattle.block.specs.Reward.{subsidy_of}
use Rattle.block.specs.declared.block.Block.{Block}
use Rattle.coins.specs.Coins.{total}
use Rattle.signatures.specs.Triple.{Triples}
use Rattle.rules.specs.declared.params.Params.{Params}
use Rattle.tree.specs.Branches.{height}
use Rattle.tree.specs.State.{State}
use Rattle.model.specs.declared.command.Command.{Command}
use Rattle.model.specs.declared.command.Command.TheVariants as command
use Rattle.model.specs.declared.entry.Entry.{Entry}
use Rattle.model.specs.Chainstate.{chainstate}
use Rattle.model.specs.Commands.{submit_step, command_step}
use Rattle.model.specs.History.{state_left, state_after_entries}
use Rattle.model.specs.Regtest.{ledger, regtest}
use Rattle.model.specs.Replay.{coins}
use Rattle.model.specs.Rules.{Rules}
use Rattle.model.specs.Settle.{active}
use Rattle.model.specs.StateInvariant.{IsSettled, AllKept}
use Rattle.model.specs.Step.{Request, Submit, Invalidate, Reconsider, Precious, step}
use Rattle.model.specs.Total.{subsidies}
use Rattle.model.specs.laws.Actives.{active_kept, active_valid}
use Rattle.model.specs.laws.Bound.{bounded}
use Rattle.model.specs.laws.Coins.{total-valid}
use Rattle.model.specs.laws.Kept.{step_kept}
use Rattle.model.specs.laws.Steps.{opening_sound, step_sound}

module _ (r : Rules Block Id) where
  abbrev pub Holds : State Block → Type 0
  Holds s = IsSettled r s × AllKept r s.blocks

  one : (s : State Block) → Holds s → (c : Request Block Id) → Holds (step r s c).0
  one s h c = (step_sound r s h.0 c, step_kept r s h.1 c)

  pub left_holds : (s : State Block) → Holds s → (c : Command) → Holds (state_left s (command_step r s c))
  unfolding command_step
  left_holds s h (command.Submit bytes now) = of (block_of_bytes bytes)
    where
      of : (o : Option Block) → Holds (state_left s (submit_step r s now o))
      of None = unfold submit_step in h
      of (Some b) = unfold submit_step in one s h (Submit now b)
  left_holds s h (command.Invalidate id) = one s h (Invalidate id)
  left_holds s h (command.Reconsider id) = one s h (Reconsider id)
  left_holds s h (command.Precious id) = one s h (Precious id)
  left_holds s h (command.Learn triple valid) = h

module _ (params : Params) (valid : Triples) where
  abbrev r : Rules Block Id
  r = regtest params valid

  pub after_holds : (s : State Block) (es : List Entry) → Holds r s → Holds r (state_after_entries (chainstate params valid) s es)
  after_holds s [] h = h
  after_holds s (e ∷ es) h = after_holds (state_left s (command_step r s e.command)) es (left_holds r s h e.command)

  pub worth : (es : List Entry) → let m = chainstate params valid in let s = state_after_entries m m.opening es in
      total (coins r ledger s) ≤ℤ pos (subsidies subsidy_of (height s.blocks (active r s)))
  worth es =
      let m = chainstate params valid in
      let s : State Block = state_after_entries m m.opening es in
      let h = after_holds m.opening es (opening_sound r, tt) in
      total-valid r ledger total subsidy_of (bounded params valid) s.blocks (active r s) h.1 (active_kept r s h.0.genesis) (active_valid r s h.0.genesis)
