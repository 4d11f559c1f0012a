-- What is left of a text once a front of it was written.
use Rattle.std.proofs.Common.{◌≡◌, ℕ, List, [], ◌∷◌, ◌++◌, sym, ap, ◌∙◌, append_assoc, append-nil}
use Rattle.std.specs.List.{concat, FoldsTo}
use Rattle.std.specs.Fmt.{WritesInCalls, WritesText}
use Rattle.std.specs.Prelude.{Option, Some, None, IfSome}

left_of_parts : {W : Type 0} (left : W → List ℕ) (parts : List (List ℕ)) (old new : W)
    → FoldsTo (λ a bytes b. left a ≡ bytes ++ left b) old parts new → left old ≡ concat parts ++ left new
left_of_parts left [] old new same = ap left same
left_of_parts left (part ∷ parts) old new folds =
    folds.1 ∙ ap (λ (text : List ℕ). part ++ text) (left_of_parts left parts folds.0 new folds.2)
    ∙ sym (append_assoc part (concat parts) (left new))

pub left_of : {W : Type 0} (left : W → List ℕ) (old new : W) (text : List ℕ)
    → WritesInCalls (λ a bytes b. left a ≡ bytes ++ left b) old text new → left old ≡ text ++ left new
left_of left old new text writes =
    left_of_parts left writes.parts old new writes.calls
    ∙ ap (λ (bytes : List ℕ). bytes ++ left new) writes.whole

-- where nothing is left, the text is what was written
pub whole_text : {W : Type 0} (left : W → List ℕ) (old new : W) (printed : Option (List ℕ))
    → WritesText (λ a bytes b. left a ≡ bytes ++ left b) old printed new → left new ≡ []
    → IfSome printed (λ text. left old ≡ text)
whole_text left old new None writes none = tt
whole_text left old new (Some text) writes none =
    left_of left old new text writes ∙ ap (λ (rest : List ℕ). text ++ rest) none ∙ append-nil text
