-- What a crash leaves of one line has no whole line behind a zero byte.
use Rattle.std.proofs.Common.{◌≡◌, ◌≢◌, ◌==◌, inl, inr, ℕ, Bool, false, not, List, [], ◌∷◌, ◌++◌, refl, sym, ◌∙◌, ap, arith}
use Rattle.std.proofs.lemmas.Bool.{cases_eq}
use Rattle.std.proofs.lemmas.Bool.Decides.{nat_tests}
use Rattle.durable.specs.Crash.{IsTorn, Leaves, Appended}
use Rattle.durable.specs.Lines.{AreWhole, IsLine, has_whole_line, is_spoiled}

line_on_zero : (b : ℕ) (text : List ℕ) → b ≡ 0 → has_whole_line false (b ∷ text) ≡ has_whole_line false text
line_on_zero b text is = grind (arith, nat_tests)

line_on_other : (b : ℕ) (text : List ℕ) → b ≢ 0 → b ≢ 10 → has_whole_line false (b ∷ text) ≡ has_whole_line false text
line_on_other b text some open_still = grind (arith, nat_tests)

last_byte : (b : ℕ) → has_whole_line false (b ∷ []) ≡ false
last_byte b = elim (cases_eq b 0) [
  | inl is ↦ line_on_zero b [] is
  | inr some ↦ elim (cases_eq b 10) [
    | inl is ↦ (grind (arith, nat_tests))
    | inr open_still ↦ line_on_other b [] some open_still
  ]
]

spoiled_on_zero : (b : ℕ) (text : List ℕ) → b ≡ 0 → is_spoiled (b ∷ text) ≡ has_whole_line false text
spoiled_on_zero b text is = grind (arith, nat_tests)

spoiled_on_other : (b : ℕ) (text : List ℕ) → b ≢ 0 → is_spoiled (b ∷ text) ≡ is_spoiled text
spoiled_on_other b text some = grind (arith, nat_tests)

-- behind a zero byte of it
no_line_left : (line part : List ℕ) → IsLine line → IsTorn (line ++ 10 ∷ []) part → has_whole_line false part ≡ false
no_line_left line [] is t = refl
no_line_left [] (n ∷ []) is t = last_byte n
no_line_left [] (n ∷ m ∷ part) is t = absurd t.1
no_line_left (b ∷ line) (n ∷ part) is t = elim t.0 [
  | inl lost ↦ line_on_zero n part lost ∙ no_line_left line part is.2 t.1
  | inr kept ↦ line_on_other n part (λ z. is.0 (sym kept ∙ z)) (λ z. is.1 (sym kept ∙ z)) ∙ no_line_left line part is.2 t.1
]

torn_line : (line part : List ℕ) → IsLine line → IsTorn (line ++ 10 ∷ []) part → is_spoiled part ≡ false
torn_line line [] is t = refl
torn_line [] (n ∷ []) is t = elim (cases_eq n 0) [
  | inl none ↦ spoiled_on_zero n [] none
  | inr some ↦ spoiled_on_other n [] some
]
torn_line [] (n ∷ m ∷ part) is t = absurd t.1
torn_line (b ∷ line) (n ∷ part) is t = elim t.0 [
  | inl lost ↦ spoiled_on_zero n part lost ∙ no_line_left line part is.2 t.1
  | inr kept ↦ spoiled_on_other n part (λ z. is.0 (sym kept ∙ z)) ∙ torn_line line part is.2 t.1
]

behind_whole : (begun : Bool) (file part : List ℕ) → AreWhole begun file → is_spoiled (file ++ part) ≡ is_spoiled part
behind_whole begun [] part w = refl
behind_whole begun (b ∷ file) part w = spoiled_on_other b (file ++ part) w.0 ∙ behind_whole (not (b == 10)) file part w.1

pub not_refused : (file line left : List ℕ) (done : Bool) → AreWhole false file → IsLine line → Leaves (Appended file (line ++ 10 ∷ []) done) left → is_spoiled left ≡ false
not_refused file line left done w is l = ap is_spoiled l.1 ∙ behind_whole false file l.0 w ∙ torn_line line l.0 is l.2
