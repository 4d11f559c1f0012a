-- What is computed of one opcode is what the relations say.
use Rattle.std.specs.Prelude.{if◌then◌else◌}
use Rattle.std.proofs.Common.{◌≡◌, inl, inr, ℕ, ◌+◌, ◌≤◌, List, [], ◌∷◌, Bool, true, false, Some, length, refl, sym, ap, ◌∙◌, subst, ⊎_elim}
use Rattle.std.proofs.lemmas.Bool.{cases_lt}
use borrow.Author.Tests.{lt-ltb, le-ltb}
use Rattle.std.specs.Option.{option_and_then}
use Rattle.signatures.specs.Known.{all_known}
use Rattle.signatures.specs.Triple.{Triples}
use Rattle.interp.specs.Answer.{Says, answer_map}
use Rattle.interp.specs.Question.{Question}
use Rattle.interp.specs.Running.{base}
use Rattle.interp.specs.inside.JobContext.{spending_for}
use Rattle.interp.specs.laws.Answers.{then-some, map-says, some-says, said}
use Rattle.interp.specs.State.{State, is_executing}
use Rattle.interp.specs.Effects.{verify, on_main}
use Rattle.interp.specs.Row.{Check, Of, Sig, Multisig, Row, Does, Controls, Tests, AndVerifies, Separates, Asks, row_of}
use Rattle.interp.specs.computed.Step.{after_test, after_counting, after_executing, after_acting, within_bounds, step_at, step}
use Rattle.interp.specs.Rules.{Checks, Executed, skipped, Acts, with_count, Step1}
use Rattle.interp.specs.laws.SignatureChecks.{sig-sound, sig-again, multisig-sound, multisig-again}

module _ (q : Question) (triples : Triples) where
  tested-sound : (check : Check) (s t : State) → after_test (all_known triples) (base q) check s ≡ Says (Some t) → Checks (spending_for q triples) check s t
  tested-sound (Of f) s t e = said _ _ e
  tested-sound Sig s t e = sig-sound q triples s t s.main refl e
  tested-sound Multisig s t e = multisig-sound q triples s t e

  tested-again : (check : Check) (s t : State) → Checks (spending_for q triples) check s t → after_test (all_known triples) (base q) check s ≡ Says (Some t)
  tested-again (Of f) s t r = ap Says r
  tested-again Sig s t r = sig-again q triples s t r
  tested-again Multisig s t r = multisig-again q triples s t r

  executed-sound : (after : List ℕ) (row : Row) (s t : State) → after_executing (all_known triples) (base q) after row s ≡ Says (Some t) → Executed (spending_for q triples) after row s t
  executed-sound after (Does f) s t e = said _ _ e
  executed-sound after (Controls f untaken) s t e = said _ _ e
  executed-sound after (Tests check) s t e = tested-sound check s t e
  executed-sound after (AndVerifies check) s t e =
      let h = map-says (option_and_then (on_main verify)) (after_test (all_known triples) (base q) check s) (Some t) e in
      let v = then-some h.0 (on_main verify) t h.2 in
      (v.0, tested-sound check s v.0 (h.1 ∙ ap Says v.1), v.2)
  executed-sound after Separates s t e = cc
  executed-sound after (Asks in_force test) s t e = said _ _ e

  executed-again : (after : List ℕ) (row : Row) (s t : State) → Executed (spending_for q triples) after row s t → after_executing (all_known triples) (base q) after row s ≡ Says (Some t)
  executed-again after (Does f) s t r = ap Says r
  executed-again after (Controls f untaken) s t r = ap Says r
  executed-again after (Tests check) s t r = tested-again check s t r
  executed-again after (AndVerifies check) s t r = ap (answer_map (option_and_then (on_main verify))) (tested-again check s r.0 r.1) ∙ ap Says r.2
  executed-again after Separates s t r = ap (λ u. Says (Some u)) (sym r)
  executed-again after (Asks in_force test) s t r = ap Says r

  acted-by : (after : List ℕ) (row : Row) (s t : State) (b : Bool) → is_executing s ≡ b → (if b then after_executing (all_known triples) (base q) after row s else Says (skipped row s)) ≡ Says (Some t)
      → Acts (spending_for q triples) after row s t
  acted-by after row s t true is e = inl (is, executed-sound after row s t e)
  acted-by after row s t false is e = inr (is, said _ _ e)

  acted-again : (after : List ℕ) (row : Row) (s t : State) → Acts (spending_for q triples) after row s t → after_acting (all_known triples) (base q) after row s ≡ Says (Some t)
  unfolding after_acting
  acted-again after row s t r =
      ⊎_elim (λ h. rw h.0 (executed-again after row s t h.1)) (λ h. rw h.0 (ap Says h.1)) r

  bounded-sound : (s t : State) → within_bounds s ≡ Some t → (s ≡ t) × (length s.main + length s.alt ≤ 1000)
  unfolding within_bounds
  bounded-sound s t e =
      ⊎_elim (λ long. let g = rw (lt-ltb 1000 (length s.main + length s.alt) long) at e in cc)
      (λ small. let g = rw (le-ltb 1000 (length s.main + length s.alt) small) at e in (cc, small)) (cases_lt 1000 (length s.main + length s.alt))

  bounded-again : (s : State) → length s.main + length s.alt ≤ 1000 → within_bounds s ≡ Some s
  unfolding within_bounds
  bounded-again s h = rw (le-ltb 1000 (length s.main + length s.alt) h) refl

  pub step-sound : (after op : List ℕ) (s t : State) → step (all_known triples) (base q) after op s ≡ Says (Some t) → Step1 (spending_for q triples) after op s t
  unfolding step step_at after_acting
  step-sound after [] s t e = cc
  step-sound after (number ∷ bytes) s t e =
      let row = row_of (number ∷ bytes) in
      let c = some-says (after_counting (all_known triples) (base q) after row) (with_count number s) t e in
      let o = map-says (option_and_then within_bounds) (after_acting (all_known triples) (base q) after row c.0) (Some t) c.2 in
      let a = then-some o.0 within_bounds t o.2 in
      let l = bounded-sound a.0 t a.2 in
      let P : State → Type 0 = λ u. Acts (spending_for q triples) after row c.0 u × (length u.main + length u.alt ≤ 1000) in
      let r = subst P l.0 (acted-by after row c.0 a.0 (is_executing c.0) refl (o.1 ∙ ap Says a.1), l.1) in
      (c.0, c.1, r.0, r.1)

  pub step-again : (after op : List ℕ) (s t : State) → Step1 (spending_for q triples) after op s t → step (all_known triples) (base q) after op s ≡ Says (Some t)
  unfolding step step_at
  step-again after [] s t r = absurd r
  step-again after (number ∷ bytes) s t r =
      rw (r.1, acted-again after (row_of (number ∷ bytes)) r.0 t r.2) (ap Says (bounded-again t r.3))
