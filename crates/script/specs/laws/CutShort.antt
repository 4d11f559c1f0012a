-- What follows the opcodes of a script, if anything does, is a push that is cut short.
use Rattle.std.proofs.Common.{◌≡◌, ◌⊎◌, inl, inr, ℕ, zero, suc, ◌+◌, ◌-◌, ◌<◌, ◌≤◌, List, [], ◌∷◌, ◌++◌, None, length, take, drop, refl, sym, ap, ◌∙◌, subst, ⊎_elim, length-append, length-drop, append_assoc, slice_index, arith}
use Rattle.std.specs.Option.{option_and_then}
use Rattle.std.specs.List.{concat}
use Rattle.std.specs.Int.{w16, w32, from_le_bytes}
use Rattle.std.proofs.lemmas.Bool.{cases_lt}
use Rattle.std.proofs.lemmas.List.{take-append-drop, append-nil}
use Rattle.std.proofs.lemmas.Nat.{le_bytes_2, le_bytes_4}
use borrow.Author.Tests.{le-ltb}
use Rattle.wire.specs.Grammar.{IsBytes}
use Rattle.wire.specs.laws.Reader.{IsBytes-take, IsBytes-after}
use Rattle.script.specs.laws.Grammar.{IsOp, BeginsNone, IsCutShort}
use Rattle.script.specs.Ops.{operand_len, within, op_len, ops, rest}
use Rattle.script.specs.laws.Ops.{sized_len, operand_1, operand_2, length_taken, none-again, direct-again, bare-again, splits}

-- ---- zeros in place of the bytes that lack
abbrev zeros : ℕ → List ℕ
zeros zero = []
zeros (suc n) = 0 ∷ zeros n

length-zeros : (n : ℕ) → length (zeros n) ≡ n
length-zeros zero = refl
length-zeros (suc n) = ap suc (length-zeros n)

fits-filled : (n : ℕ) (bytes : List ℕ) → IsBytes bytes → IsBytes (bytes ++ zeros n)
fits-filled zero [] fits i = fits i
fits-filled (suc n) [] fits zero = omega arith
fits-filled (suc n) [] fits (suc i) = fits-filled n [] fits i
fits-filled n (b ∷ bytes) fits zero = fits 0
fits-filled n (b ∷ bytes) fits (suc i) = fits-filled n bytes (λ j. fits (suc j)) i

-- ---- a front of a push is made whole
abbrev Completes : ℕ → List ℕ → Type 0
Completes number tail = (missing : List ℕ) × IsOp (number ∷ (tail ++ missing))

within-none : (bytes : List ℕ) (n : ℕ) → within bytes n ≡ None → length bytes < n
within-none bytes n e =
    ⊎_elim (λ short. short) (λ long. let f = rw (le-ltb (length bytes) n long) at e in cc) (cases_lt (length bytes) n)

sized-none : (w m : ℕ) (tail : List ℕ) → option_and_then (within tail) (sized_len w tail m) ≡ None → w ≤ length tail → length tail < w + m
sized-none w m tail e h = within-none tail (w + m) (rw (le-ltb (length tail) w h) at e)

direct-completes : (b : ℕ) (tail : List ℕ) → b < 76 → length tail < b → Completes b tail
direct-completes b tail h short =
    (zeros (b - length tail), (b, tail ++ zeros (b - length tail), inl (h, omega (arith, length-append tail (zeros (b - length tail)), length-zeros (b - length tail)), refl)))

-- a length in `w` bytes, read by `value`, and so many bytes make an opcode of this number
module _ (number w : ℕ) (value : List ℕ → ℕ) (whole : (front pushed : List ℕ) → length front ≡ w → IsBytes front → length pushed ≡ value front → IsOp (number ∷ (front ++ pushed))) where
  in-length : (tail : List ℕ) → IsBytes tail → length tail < w → Completes number tail
  in-length tail fits short =
      let lacks = zeros (w - length tail) in
      let front = tail ++ lacks in
      let long : length front ≡ w = omega (arith, length-append tail lacks, length-zeros (w - length tail)) in
      let op = whole front (zeros (value front)) long (fits-filled (w - length tail) tail fits) (length-zeros (value front)) in
      (lacks ++ zeros (value front), subst (λ (t : List ℕ). IsOp (number ∷ t)) (append_assoc tail lacks (zeros (value front))) op)

  in-data : (tail : List ℕ) → IsBytes tail → w ≤ length tail → length tail < w + value (take w tail) → Completes number tail
  in-data tail fits h short =
      let m = value (take w tail) in
      let lacks = zeros (w + m - length tail) in
      let many : length (drop w tail ++ lacks) ≡ m = omega (arith, length-append (drop w tail) lacks, length-zeros (w + m - length tail), length-drop w tail) in
      let op = whole (take w tail) (drop w tail ++ lacks) (length_taken w tail h) (IsBytes-take w tail fits) many in
      (lacks, subst (λ (t : List ℕ). IsOp (number ∷ t)) (sym (append_assoc (take w tail) (drop w tail) lacks) ∙ ap (λ t. t ++ lacks) (take-append-drop w tail)) op)

  sized-completes : (tail : List ℕ) → IsBytes tail → option_and_then (within tail) (sized_len w tail (value (take w tail))) ≡ None → Completes number tail
  sized-completes tail fits e =
      ⊎_elim (λ short. in-length tail fits short) (λ long. in-data tail fits long (sized-none w (value (take w tail)) tail e long)) (cases_lt (length tail) w)

whole-76 : (front pushed : List ℕ) → length front ≡ 1 → IsBytes front → length pushed ≡ slice_index front 0 → IsOp (76 ∷ (front ++ pushed))
whole-76 [] pushed h fits e = absurd (omega arith)
whole-76 (m ∷ []) pushed h fits e = (76, pushed, inr (inl (inl (refl, omega (arith, fits 0), ap (λ n. 76 ∷ n ∷ pushed) (sym e)))))
whole-76 (m ∷ n ∷ front) pushed h fits e = absurd (omega arith)

whole-77 : (front pushed : List ℕ) → length front ≡ 2 → IsBytes front → length pushed ≡ from_le_bytes w16 front → IsOp (77 ∷ (front ++ pushed))
whole-77 front pushed h fits e =
    (77, pushed, inr (inl (inr (inl (refl, omega (arith, fits 0, fits 1), ap (λ t. 77 ∷ (t ++ pushed)) (sym (le_bytes_2 front (length pushed) h fits e)))))))

whole-78 : (front pushed : List ℕ) → length front ≡ 4 → IsBytes front → length pushed ≡ from_le_bytes w32 front → IsOp (78 ∷ (front ++ pushed))
whole-78 front pushed h fits e =
    (78, pushed, inr (inl (inr (inr (refl, omega (arith, fits 0, fits 1, fits 2, fits 3), ap (λ t. 78 ∷ (t ++ pushed)) (sym (le_bytes_4 front (length pushed) h fits e)))))))

first-taken : (tail : List ℕ) → slice_index tail 0 ≡ slice_index (take 1 tail) 0
first-taken [] = refl
first-taken (m ∷ tail) = refl

completes : (b : ℕ) (tail : List ℕ) → IsBytes tail → op_len (b ∷ tail) ≡ None → Completes b tail
unfolding operand_len
completes b tail fits e =
    let P : ℕ → Type 0 = λ c. op_len (c ∷ tail) ≡ None → Completes c tail in
    ⊎_elim (λ direct. direct-completes b tail direct (within-none tail b (rw (direct-again b tail direct) at e)))
    (λ h. ⊎_elim (λ i. let is : 76 ≡ b = omega arith in subst P is (λ f. sized-completes 76 1 (λ t. slice_index t 0) whole-76 tail fits (ap (λ m. option_and_then (within tail) (sized_len 1 tail m)) (sym (first-taken tail)) ∙ ap (option_and_then (within tail)) (sym (operand_1 tail)) ∙ f)) e)
    (λ i. ⊎_elim (λ j. let is : 77 ≡ b = omega arith in subst P is (λ f. sized-completes 77 2 (from_le_bytes w16) whole-77 tail fits (ap (option_and_then (within tail)) (sym (operand_2 tail)) ∙ f)) e)
    (λ j. ⊎_elim (λ k. let is : 78 ≡ b = omega arith in subst P is (λ f. sized-completes 78 4 (from_le_bytes w32) whole-78 tail fits f) e)
    (λ k. absurd (omega (arith, within-none tail 0 (rw (bare-again b tail k) at e)))) (cases_lt b 79)) (cases_lt b 78)) (cases_lt b 77)) (cases_lt b 76)

something : (bytes missing : List ℕ) → BeginsNone bytes → IsOp (bytes ++ missing) → 0 < length missing
something bytes [] none op = absurd (none (bytes ++ []) [] op (sym (append-nil (bytes ++ []) ∙ append-nil bytes)))
something bytes (b ∷ missing) none op = omega arith

cut-short : (bytes : List ℕ) → IsBytes bytes → BeginsNone bytes → (bytes ≡ []) ⊎ IsCutShort bytes
cut-short [] fits none = inl refl
cut-short (b ∷ tail) fits none =
    let c = completes b tail (λ i. fits (suc i)) (none-again (b ∷ tail) fits none) in
    inr (c.0, omega arith, something (b ∷ tail) c.0 none c.1, c.1)

pub rest-cut_short : (script : List ℕ) → IsBytes script → (rest script ≡ []) ⊎ IsCutShort (rest script)
rest-cut_short script fits =
    let s = splits script fits in
    cut-short (rest script) (IsBytes-after script (concat (ops script)) (rest script) s.whole fits) s.cut
