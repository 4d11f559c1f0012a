-- A verdict changes no chainstate.
use Rattle.std.proofs.Common.{◌≡◌, ℕ, Bool, true, false, cond, List, [], ◌∷◌, refl, ap, sym, ◌∙◌, subst}
use Rattle.std.proofs.lemmas.Bool.{true≢false}
use Rattle.block.specs.declared.block.Block.{Block}
use Rattle.signatures.specs.Triple.{Triples}
use Rattle.rules.specs.declared.params.Params.{Params}
use Rattle.tree.specs.State.{State}
use Rattle.model.specs.declared.command.Command.{Command}
use Rattle.model.specs.declared.command.Command.TheVariants.{Submit, Invalidate, Reconsider, Precious, Learn}
use Rattle.model.specs.declared.entry.Entry.{Entry}
use Rattle.model.specs.Commands.{command_step}
use Rattle.model.specs.Chainstate.{chainstate}
use Rattle.model.specs.Machine.{Machine}
use Rattle.model.specs.History.{state_left, state_after_entries, LegalFrom}
use Rattle.model.specs.Regtest.{regtest}
use Rattle.histories.specs.Histories.{AreAnswered, is_verdict, without_verdicts}

module _ (p : Params) (valid : Triples) where
  abbrev m : Machine
  m = chainstate p valid

  left : (s : State Block) (c : Command) → is_verdict c ≡ true → state_left s (command_step (regtest p valid) s c) ≡ s
  unfolding command_step
  left s (Submit bytes now) h = absurd (true≢false (sym h))
  left s (Invalidate id) h = absurd (true≢false (sym h))
  left s (Reconsider id) h = absurd (true≢false (sym h))
  left s (Precious id) h = absurd (true≢false (sym h))
  left s (Learn triple verdict) h = refl

  pub state_without : (s : State Block) (es : List Entry) → state_after_entries m s (without_verdicts es) ≡ state_after_entries m s es
  state_without s [] = refl
  state_without s (e ∷ es) =
      let next = state_left s (command_step (regtest p valid) s e.command) in
      at (state_without s es) (state_without next es) (is_verdict e.command) refl
    where
      at : let next = state_left s (command_step (regtest p valid) s e.command) in let ws = without_verdicts es in
          state_after_entries m s ws ≡ state_after_entries m s es → state_after_entries m next ws ≡ state_after_entries m next es
          → (b : Bool) → is_verdict e.command ≡ b → state_after_entries m s (cond b ws (e ∷ ws)) ≡ state_after_entries m next es
      at here later true h = here ∙ ap (λ (u : State Block). state_after_entries m u es) (sym (left s e.command h))
      at here later false h = later

  pub legal_without : (seats : ℕ) (s : State Block) (es : List Entry) → LegalFrom m seats s es → LegalFrom m seats s (without_verdicts es)
  legal_without seats s [] h = tt
  legal_without seats s (e ∷ es) h = at (legal_without seats (state_left s (command_step (regtest p valid) s e.command)) es h.1) (is_verdict e.command) refl
    where
      at : let next = state_left s (command_step (regtest p valid) s e.command) in let ws = without_verdicts es in
          LegalFrom m seats next ws → (b : Bool) → is_verdict e.command ≡ b → LegalFrom m seats s (cond b ws (e ∷ ws))
      at later true q = subst (λ (u : State Block). LegalFrom m seats u (without_verdicts es)) (left s e.command q) later
      at later false q = (h.0, later)

pub answered_without : (es : List Entry) → AreAnswered es → AreAnswered (without_verdicts es)
answered_without [] h = tt
answered_without (e ∷ es) h = at (answered_without es h.1) (is_verdict e.command)
  where
    at : AreAnswered (without_verdicts es) → (b : Bool) → AreAnswered (cond b (without_verdicts es) (e ∷ without_verdicts es))
    at later true = later
    at later false = (h.0, later)
