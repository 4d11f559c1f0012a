-- What a crash leaves of bytes that were appended.
use Rattle.std.proofs.Common.{◌≡◌, inl, inr, ℕ, ◌≤◌, Bool, false, List, [], ◌∷◌, ◌++◌, length, refl, sym, ◌∙◌, ap, subst, arith, append_assoc, length-append}
use Rattle.std.proofs.lemmas.Bool.{cases_eq}
use mathlib.Core.List.{IsPrefix}
use Rattle.durable.specs.Crash.{IsTorn, Leaves, Appended}
use Rattle.durable.specs.Lines.{lines_on, lines, AreWhole}
use Rattle.durable.specs.KeptSteps.{Told, AreUpTo, Keeps}
use Rattle.durable.proofs.Whole.{on_zero, on_end, on_other, lines-append}

none_begins : (xs ys : List (List ℕ)) → xs ≡ [] → IsPrefix xs ys
none_begins xs ys none = (ys, ap (λ (l : List (List ℕ)). l ++ ys) none)

same_begins : (xs xs' ys ys' : List (List ℕ)) → xs' ≡ xs → ys' ≡ ys → IsPrefix xs ys → IsPrefix xs' ys'
same_begins xs xs' ys ys' x y p = (p.0, ap (λ (l : List (List ℕ)). l ++ p.0) x ∙ p.1 ∙ sym y)

-- the lines that are left are the first ones
pub torn_begins : (line bytes part : List ℕ) → IsTorn bytes part → IsPrefix (lines_on line part) (lines_on line bytes)
torn_begins line bytes [] t = (lines_on line bytes, refl)
torn_begins line [] (n ∷ part) t = absurd t
torn_begins line (b ∷ bytes) (n ∷ part) t = elim t.0 [
  | inl lost ↦ none_begins (lines_on line (n ∷ part)) (lines_on line (b ∷ bytes)) (on_zero line n part lost)
  | inr kept ↦ elim (cases_eq b 0) [
    | inl is ↦ none_begins (lines_on line (n ∷ part)) (lines_on line (b ∷ bytes)) (on_zero line n part (kept ∙ is))
    | inr some ↦ elim (cases_eq b 10) [
      | inl is ↦ (let p = torn_begins [] bytes part t.1 in
          same_begins (line ∷ lines_on [] part) (lines_on line (n ∷ part)) (line ∷ lines_on [] bytes) (lines_on line (b ∷ bytes))
          (on_end line n part (kept ∙ is)) (on_end line b bytes is) (p.0, ap (λ (l : List (List ℕ)). line ∷ l) p.1))
      | inr open_still ↦ same_begins (lines_on (line ++ b ∷ []) part) (lines_on line (n ∷ part)) (lines_on (line ++ b ∷ []) bytes) (lines_on line (b ∷ bytes))
          (ap (λ (x : ℕ). lines_on line (x ∷ part)) kept ∙ on_other line b part some open_still) (on_other line b bytes some open_still)
          (torn_begins (line ++ b ∷ []) bytes part t.1)
    ]
  ]
]

pub up_to_more : (m n : ℕ) (stamps : List Told) → m ≤ n → AreUpTo m stamps → AreUpTo n stamps
up_to_more m n [] le all = tt
up_to_more m n (s ∷ stamps) le all = (omega (arith, all.0, le), up_to_more m n stamps le all.1)

-- a file of whole lines, and whatever is left of what was appended to it
pub keeps_torn : (file bytes : List ℕ) (stamps : List Told) (done : Bool) (left : List ℕ) → AreWhole false file → AreUpTo (length (lines file)) stamps
    → Leaves (Appended file bytes done) left → Keeps (lines file ++ lines bytes) left stamps
keeps_torn file bytes stamps done left w up l =
    let is : lines left ≡ lines file ++ lines l.0 = ap lines l.1 ∙ lines-append file l.0 w in
    let p = torn_begins [] bytes l.0 l.2 in
    record {
      beginning = (p.0, ap (λ (x : List (List ℕ)). x ++ p.0) is ∙ append_assoc (lines file) (lines l.0) p.0 ∙ ap (λ (x : List (List ℕ)). lines file ++ x) p.1);
      has = up_to_more (length (lines file)) (length (lines left)) stamps (omega (arith, ap length is, length-append (lines file) (lines l.0))) up;
    }

-- a file of whole lines that is all on the disk
pub keeps_synced : (history more : List (List ℕ)) (file : List ℕ) (stamps : List Told) (left : List ℕ) → history ≡ lines file ++ more → AreUpTo (length (lines file)) stamps → left ≡ file
    → Keeps history left stamps
keeps_synced history more file stamps left is up same = record {
  beginning = (more, ap (λ (l : List ℕ). lines l ++ more) same ∙ sym is);
  has = subst (λ (l : List ℕ). AreUpTo (length (lines l)) stamps) (sym same) up;
}
