-- What commands come to, and the state after one command more.
use Rattle.std.proofs.Common.{◌≡◌, Bool, ℕ, zero, suc, ◌+◌, ◌<◌, List, [], ◌∷◌, length, take, get_or, Option, Some, None, arith, sym, refl, ap, ◌∙◌, subst}
use Rattle.std.specs.Option.{unwrap_or}
use Rattle.hash.specs.declared.id.Id.{Id}
use Rattle.block.specs.declared.block.Block.{Block}
use Rattle.block.specs.BlockOfBytes.{block_of_bytes}
use Rattle.signatures.specs.Triple.{Triple}
use Rattle.tree.specs.State.{State}
use Rattle.model.specs.declared.command.Command.{Command}
use Rattle.model.specs.declared.command.Command.TheVariants as command
use Rattle.model.specs.declared.reply.MarkReply.TheVariants.{Done}
use Rattle.model.specs.declared.reply.SubmitReply.TheVariants.{DecodeFailed}
use Rattle.model.specs.Rules.{Rules}
use Rattle.model.specs.Submission.{Outcome, submit_says}
use Rattle.model.specs.Step.{Request, Submit, Invalidate, Reconsider, Precious, mark_says, step}
use Rattle.model.specs.Commands.{submit_step, command_step, outcome, state_after_commands}
use Rattle.model.specs.StateInvariant.{IsSettled, AllKept}
use Rattle.model.specs.laws.Steps.{step_sound}
use Rattle.model.specs.laws.Kept.{step_kept}

module _ (r : Rules Block Id) (s : State Block) where
  pub submitted : (bytes : List ℕ) (now : ℕ) (b : Block) → block_of_bytes bytes ≡ Some b → step r s (Submit now b) ≡ outcome r s (command.Submit bytes now)
  unfolding command_step submit_step
  submitted bytes now b e = sym (ap (λ o. unwrap_or (submit_step r s now o) (submit_says s DecodeFailed)) e)

  pub refused : (bytes : List ℕ) (now : ℕ) → block_of_bytes bytes ≡ None → submit_says s DecodeFailed ≡ outcome r s (command.Submit bytes now)
  unfolding command_step submit_step
  refused bytes now e = sym (ap (λ o. unwrap_or (submit_step r s now o) (submit_says s DecodeFailed)) e)

  pub invalidates : (i : Id) → step r s (Invalidate i) ≡ outcome r s (command.Invalidate i)
  unfolding command_step
  invalidates i = refl

  pub reconsiders : (i : Id) → step r s (Reconsider i) ≡ outcome r s (command.Reconsider i)
  unfolding command_step
  reconsiders i = refl

  pub prefers : (i : Id) → step r s (Precious i) ≡ outcome r s (command.Precious i)
  unfolding command_step
  prefers i = refl

  pub learns : (t : Triple) (valid : Bool) → mark_says s Done ≡ outcome r s (command.Learn t valid)
  unfolding command_step
  learns t valid = refl

  -- each is a step, or leaves the state
  pub each-outcome : (P : State Block → Type 0) → P s → ((c : Request Block Id) → P (step r s c).0) → (c : Command) → P (outcome r s c).0
  unfolding command_step
  each-outcome P stays steps (command.Submit bytes now) = of (block_of_bytes bytes)
    where
      of : (o : Option Block) → P (unwrap_or (submit_step r s now o) (submit_says s DecodeFailed)).0
      of None = unfold submit_step in stays
      of (Some b) = unfold submit_step in steps (Submit now b)
  each-outcome P stays steps (command.Invalidate id) = steps (Invalidate id)
  each-outcome P stays steps (command.Reconsider id) = steps (Reconsider id)
  each-outcome P stays steps (command.Precious id) = steps (Precious id)
  each-outcome P stays steps (command.Learn triple valid) = stays

-- the state after one command more
pub state-more : (r : Rules Block Id) (s : State Block) (cs : List Command) (i : ℕ) (d : Command) → i < length cs → state_after_commands r s (take (i + 1) cs) ≡ (outcome r (state_after_commands r s (take i cs)) (get_or cs i d)).0
state-more r s [] i d h = absurd (omega arith)
state-more r s (c ∷ cs) zero d h = refl
state-more r s (c ∷ cs) (suc i) d h = ap (λ (n : ℕ). state_after_commands r s (take n (c ∷ cs))) {x = suc i + 1} {y = suc (i + 1)} (omega arith) ∙ state-more r (outcome r s c).0 cs i d (omega arith)

-- what holds of each reached state holds after commands too
pub commands-settled : (r : Rules Block Id) (s : State Block) (cs : List Command) → IsSettled r s → AllKept r s.blocks
    → IsSettled r (state_after_commands r s cs) × AllKept r (state_after_commands r s cs).blocks
commands-settled r s [] sound all = (sound, all)
commands-settled r s (c ∷ cs) sound all =
    commands-settled r (outcome r s c).0 cs
    (each-outcome r s (λ (t : State Block). IsSettled r t) sound (λ q. step_sound r s sound q) c)
    (each-outcome r s (λ (t : State Block). AllKept r t.blocks) all (λ q. step_kept r s all q) c)
