-- A line more of a journal that was read.
use Rattle.std.proofs.Common.{◌≡◌, ◌⊎◌, inl, inr, ℕ, zero, suc, ◌+◌, List, [], ◌∷◌, ◌++◌, length, sym, ap, ◌∙◌, subst, append_assoc, append-nil}
use Rattle.std.specs.Prelude.{Some, codes, slice_get}
use Rattle.std.specs.List.{flat_map}
use Rattle.std.proofs.lemmas.Grind.{flat_map-append}
use Rattle.std.proofs.lemmas.Option.{none-some, same_Some}
use Rattle.hash.specs.declared.id.Id.{Id}
use Rattle.journal.specs.declared.step.Step.{Step}
use Rattle.journal.specs.Line.{line_of, AreNumbered}

abbrev pub ended : Step Id → List ℕ
ended step = line_of step ++ codes "\n"

-- the lines of these steps stand before the rest, of which the last may lack its end
abbrev pub AreRead : List ℕ → List (Step Id) → List ℕ → Type 0
AreRead text steps rest =
    (text ≡ flat_map ended steps ++ rest)
    ⊎ ((text ++ codes "\n" ≡ flat_map ended steps) × (rest ≡ []))

one_more : (steps : List (Step Id)) (step : Step Id) → flat_map ended (steps ++ step ∷ []) ≡ flat_map ended steps ++ ended step
one_more steps step = flat_map-append ended steps (step ∷ []) ∙ ap (λ (text : List ℕ). flat_map ended steps ++ text) (append-nil (ended step))

pub line_read : (text rest line behind : List ℕ) (steps : List (Step Id)) (step : Step Id)
    → AreRead text steps rest → (rest ≡ [] → ⊥)
    → (rest ≡ line ++ 10 ∷ behind) ⊎ ((rest ≡ line) × (behind ≡ [])) → line ≡ line_of step
    → AreRead text (steps ++ step ∷ []) behind
line_read text rest line behind steps step (inl read) more (inl front) is =
    inl (read ∙ ap (λ (t : List ℕ). flat_map ended steps ++ t)
    (front ∙ ap (λ (t : List ℕ). t ++ 10 ∷ behind) is ∙ sym (append_assoc (line_of step) (codes "\n") behind))
    ∙ sym (append_assoc (flat_map ended steps) (ended step) behind)
    ∙ ap (λ (t : List ℕ). t ++ behind) (sym (one_more steps step)))
line_read text rest line behind steps step (inl read) more (inr last) is =
    inr (
      ap (λ (t : List ℕ). t ++ codes "\n") (read ∙ ap (λ (t : List ℕ). flat_map ended steps ++ t) (last.0 ∙ is))
          ∙ append_assoc (flat_map ended steps) (line_of step) (codes "\n")
          ∙ sym (one_more steps step),
      last.1,
    )
line_read text rest line behind steps step (inr read) more front is = absurd (more read.1)

pushed : {X : Type 0} (P : ℕ → X → Type 0) (xs : List X) (x : X)
    → ((i : ℕ) (y : X) → slice_get xs i ≡ Some y → P i y) → P (length xs) x
    → (i : ℕ) (y : X) → slice_get (xs ++ x ∷ []) i ≡ Some y → P i y
pushed P [] x all last zero y same = subst (P 0) (same_Some x y same) last
pushed P [] x all last (suc i) y same = absurd (none-some y same)
pushed P (first ∷ xs) x all last zero y same = all 0 y same
pushed P (first ∷ xs) x all last (suc i) y same = pushed (λ j. P (suc j)) xs x (λ j. all (suc j)) last i y same

pub number_read : (steps : List (Step Id)) (step : Step Id) → AreNumbered steps → step.number ≡ length steps + 1
    → AreNumbered (steps ++ step ∷ [])
number_read steps step all last = pushed (λ place s. s.number ≡ place + 1) steps step all last
